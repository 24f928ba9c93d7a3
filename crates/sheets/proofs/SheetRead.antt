-- A sheet is checked exactly: it holds where the bytes are those of lines that hold and can be written. Assumes nothing.
use Rattle.certificates.specs.declared.access.Access.{Access}
use Rattle.std.proofs.Common.{◌≡◌, ℕ, zero, suc, ◌≤◌, true, List, [], ◌∷◌, ◌++◌, length, Ok, Err, Result, refl, ap, ◌∙◌}
use Rattle.certificates.specs.Certificates.{WellFormed}
use Rattle.certificates.specs.declared.Certificate.{Certificate}
use Rattle.sheets.proofs.Judged.{passed}
use Rattle.sheets.proofs.LineRead.{Bytes, bytes_rest, GoodLine, line_read, read_line}
use Rattle.sheets.proofs.Lines.{first_good}
use Rattle.sheets.proofs.Shown.{impossible, true_from_t, T_from_true}
use Rattle.sheets.specs.Bytes.{line_bytes, bytes_of_sheet, Writable}
use Rattle.sheets.specs.Checking.{line_checked, going, lines_checked, concluded}
use Rattle.sheets.specs.Facts.{Fact}
use Rattle.sheets.specs.Laws.{ChecksExactly}
use Rattle.sheets.specs.Sheets.{Line, certificate_at, good, shows, start, entitled, holds_from, holds}
use Rattle.std.proofs.lemmas.Bool.{and_from}
use Rattle.std.specs.List.{AllByRecursion}
use Rattle.wire.specs.declared.faults.Fault.{Fault}
use Rattle.wire.specs.declared.faults.Fault.TheVariants.{HouseNotShown}

-- a sheet that was found to hold
abbrev pub Found : ℕ → List Fact × Result (List ℕ) Fault → Type 0
Found house done = concluded house done.0 done.1 ≡ Ok tt

module _ (cs : List Certificate) (formed : AllByRecursion WellFormed cs) (access : Access) (house : ℕ) where
  -- lines of these bytes that hold, from some facts on
  abbrev Holding : ℕ → List Fact → List ℕ → Type 0
  Holding count facts s =
      (lines : List Line) × (length lines ≡ count) × AllByRecursion (Writable cs) lines × (s ≡ bytes_of_sheet lines) × (holds_from cs access facts lines house ≡ true)

  no_lines : (facts : List Fact) (s : List ℕ) → Found house (facts, Ok s) → Holding zero facts s
  unfolding holds_from
  no_lines facts [] e = ([], refl, tt, refl, (passed (entitled house facts) (Ok tt) HouseNotShown tt e).0)
  no_lines facts (b ∷ s) e = impossible (cc)

  line_more : (count : ℕ) (facts : List Fact) (s : List ℕ) (fact : Fact) (rest : List ℕ) →
      GoodLine cs access facts s fact rest → Holding count (fact ∷ facts) rest → Holding (suc count) facts s
  unfolding holds_from
  line_more count facts s fact rest g (lines, many, writable, is, held) =
      let l = g.line in (
        l ∷ lines,
        ap suc many,
        (g.writable, writable),
        g.is_bytes ∙ ap (λ t. line_bytes l ++ t) is,
        and_from (good access facts (certificate_at cs l.certificate) l.houses) (holds_from cs access (shows cs l ∷ facts) lines house)
            g.is_good (rw g.is_fact at held),
      )

  -- lines that were found to hold are there
  lines_read : (count line : ℕ) (facts : List Fact) (s : List ℕ) → Bytes s → Found house (lines_checked cs access count line facts s) → Holding count facts s
  unfolding lines_checked
  lines_read zero line facts s small e = no_lines facts s e
  lines_read (suc count) line facts s small e = go (λ fact rest. lines_read count (suc line) (fact ∷ facts) rest) (line_checked cs access line facts s) refl e
    where
      next : Fact → List ℕ → List Fact × Result (List ℕ) Fault
      next fact rest = lines_checked cs access count (suc line) (fact ∷ facts) rest

      go : ((fact : Fact) (rest : List ℕ) → Bytes rest → Found house (next fact rest) → Holding count (fact ∷ facts) rest) →
          (r : Result (Fact × List ℕ) Fault) → line_checked cs access line facts s ≡ r → Found house (going facts next r) → Holding (suc count) facts s
      go behind (Ok p) is found =
          let g = line_read cs access line facts formed s small p is in
          line_more count facts s p.0 p.1 g (behind p.0 p.1 (bytes_rest (line_bytes g.line) p.1 (rw g.is_bytes at small)) found)
      go behind (Err fault) is found = impossible (cc)

  -- and lines that hold are found to
  read_lines : length cs ≤ 1024 → (line : ℕ) (facts : List Fact) (lines : List Line) → AllByRecursion (Writable cs) lines →
      holds_from cs access facts lines house ≡ true → Found house (lines_checked cs access (length lines) line facts (bytes_of_sheet lines))
  unfolding lines_checked holds_from
  read_lines few line facts [] writable held = rw held
  read_lines few line facts (l ∷ lines) writable held =
      let (g, rest) = first_good cs access facts house l lines held in
      rw (read_line cs access line facts few l writable.0 g (bytes_of_sheet lines))
      (read_lines few (suc line) (shows cs l ∷ facts) lines writable.1 rest)

pub checks_exactly_lem : ChecksExactly
checks_exactly_lem cs formed few access house count s small = (
  (λ found.
      let (lines, many, writable, is, held) = lines_read cs formed access house count 0 (start access.owner) s small found in
      (lines, many, writable, is, T_from_true (holds cs access lines house) held)),
  (λ (lines, many, writable, is, t).
      rw (← many, is) (read_lines cs formed access house few 0 (start access.owner) lines writable (true_from_t (holds cs access lines house) t))),
)
