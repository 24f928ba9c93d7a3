-- The bytes of a sheet. Assumes nothing.
use Rattle.std.specs.Prelude.{◌≡◌, ℕ, ◌+◌, ◌*◌, ◌<◌, true, List, [], ◌∷◌, ◌++◌, length, max}
use Rattle.certificates.specs.Certificates.{subject_of}
use Rattle.certificates.specs.declared.Certificate.{Certificate}
use Rattle.sheets.specs.Checking.{known_houses}
use Rattle.sheets.specs.Sheets.{Line, certificate_at}
use Rattle.std.specs.List.{flat_map}
use Rattle.wire.specs.Numbers.{bytes}

-- a certificate's number, then the houses
abbrev pub line_bytes : Line → List ℕ
line_bytes l = bytes 2 l.certificate ++ flat_map (bytes 2) l.houses

abbrev pub bytes_of_sheet : List Line → List ℕ
bytes_of_sheet lines = flat_map line_bytes lines

-- how many bytes a line of a certificate has
abbrev pub line_size : Certificate → ℕ
line_size c = 2 + 2 * (subject_of c.statement).count

-- the most bytes of a line of any of these certificates; 0 where there are none
unfoldable pub longest_line : List Certificate → ℕ
longest_line [] = 0
longest_line (c ∷ cs) = max (line_size c) (longest_line cs)

-- a line that can be written and read: it names a certificate that there is, and a house that there may be for each name of its subject
pub record Writable (cs : List Certificate) (l : Line) : Type 0 where
  pub number : l.certificate < length cs
  pub many : length l.houses ≡ (subject_of (certificate_at cs l.certificate).statement).count
  pub known : known_houses l.houses ≡ true
