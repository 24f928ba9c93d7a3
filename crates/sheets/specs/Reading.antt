-- What reading a line leaves to be judged. Assumes nothing.
use Rattle.std.specs.Prelude.{◌≡◌, ℕ, zero, suc, ◌<◌, Bool, true, cond, List, [], ◌∷◌, length, take, Some, None, Ok, Err, Option, Result, nat_lt}
use Rattle.certificates.specs.Certificates.{names_of, subject_of, in_range}
use Rattle.certificates.specs.declared.Certificate.{Certificate}
use Rattle.sheets.specs.Sheets.{certificate_at}
use Rattle.sheets.specs.declared.line.Line.{Line}
use Rattle.std.specs.Option.{option_map}
use Rattle.wire.specs.Numbers.{Taken, take_number, take_numbers}
use Rattle.std.specs.Borrow.{Bor}

-- one of the certificates, with values that it may have
pub record Kept (cs : List Certificate) (c : Certificate) : Type 0 where
  pub number : ℕ
  pub below : number < length cs
  pub is : c ≡ certificate_at cs number
  pub ranged : in_range c ≡ true

-- the houses of a line that was read: as many as its certificate's subject has names
abbrev pub houses_of : Line → List ℕ
houses_of l = take (subject_of l.certificate.now.statement).count l.houses.numbers

-- steps by a test of each: the last house reached, or the first step that fails, counted on from i
unfoldable pub walk_by : (ℕ → ℕ → ℕ → Bool) → ℕ → ℕ → List ℕ → List ℕ → Result ℕ ℕ
walk_by test i house [] houses = Ok house
walk_by test i house (n ∷ names) [] = Ok house
walk_by test i house (n ∷ names) (h ∷ houses) = cond (test house n h) (walk_by test (suc i) h names houses) (Err i)

-- the steps of a line that was read
abbrev pub walked_by : (ℕ → ℕ → ℕ → Bool) → Line → Result ℕ ℕ
walked_by test l = walk_by test 0 (subject_of l.certificate.now.statement).house (names_of (subject_of l.certificate.now.statement)) (houses_of l)

-- a line that is walked over: what follows it, where its certificate is there and its bytes are not cut
abbrev pub past_houses : Taken (List ℕ) → Option (List ℕ)
past_houses None = None
past_houses (Some p) = Some p.1

abbrev pub past_number : List Certificate → Taken ℕ → Option (List ℕ)
past_number cs None = None
past_number cs (Some p) = cond (nat_lt p.0 (length cs)) (past_houses (take_numbers (subject_of (certificate_at cs p.0).statement).count p.1)) None

abbrev pub line_skipped : List Certificate → List ℕ → Option (List ℕ)
line_skipped cs s = past_number cs (take_number 2 s)

abbrev pub onward : Option (List ℕ) → (List ℕ → Option (List ℕ)) → Option (List ℕ)
onward None next = None
onward (Some rest) next = next rest

-- so many lines walked over
unfoldable pub lines_skipped : List Certificate → ℕ → List ℕ → Option (List ℕ)
lines_skipped cs zero s = Some s
lines_skipped cs (suc count) s = onward (line_skipped cs s) (lines_skipped cs count)

-- a reader's answer, with its part of the slice as a list
abbrev pub past_of : Option (Bor (List ℕ)) → Option (List ℕ)
past_of r = option_map (λ x. x.now) r
