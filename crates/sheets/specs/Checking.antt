-- The check of a sheet that comes as bytes. Assumes nothing.
use Rattle.std.specs.Prelude.{ℕ, zero, suc, Bool, true, cond, ◌&&◌, List, [], ◌∷◌, length, Some, None, Ok, Err, Option, Result, nat_le, nat_lt}
use Rattle.certificates.specs.Certificates.{names_of, subject_of, valid, grants}
use Rattle.certificates.specs.declared.Certificate.{Certificate}
use Rattle.certificates.specs.declared.access.Access.{Access}
use Rattle.certificates.specs.declared.Statement.{Statement}
use Rattle.certificates.specs.declared.Statement.TheVariants.{Name, Rights}
use Rattle.sheets.specs.Facts.{Fact, NameMeans, HasRight, shown}
use Rattle.sheets.specs.Sheets.{certificate_at, reached, fact_of, start, entitled}
use Rattle.std.specs.Option.{option_map}
use Rattle.wire.specs.Numbers.{Taken, take_number, take_numbers}
use Rattle.wire.specs.declared.faults.Fault.{Fault}
use Rattle.wire.specs.declared.faults.Fault.TheVariants.{Malformed, LineCut, LineOutOfRange, LineUnknown, NotValid, NotGiven, IssuerNotShown, StepNotShown, HouseNotShown}

-- no house above 1,023
unfoldable pub known_houses : List ℕ → Bool
known_houses [] = true
known_houses (h ∷ houses) = nat_le h 1023 && known_houses houses

-- the first step that is not shown, if there is one
unfoldable pub unshown : List Fact → ℕ → List ℕ → List ℕ → Option ℕ
unshown facts house [] houses = None
unshown facts house (n ∷ names) [] = None
unshown facts house (n ∷ names) (h ∷ houses) = cond (shown (NameMeans house n h) facts) (option_map suc (unshown facts h names houses)) (Some 0)

-- a line's number, the facts that the lines above it show, its certificate and its houses
module _ (line : ℕ) (facts : List Fact) (c : Certificate) (houses : List ℕ) where
  abbrev pub stepped : Option ℕ → Result Fact Fault
  stepped None = Ok (fact_of c (reached (subject_of c.statement).house houses))
  stepped (Some step) = Err (StepNotShown line step)

  abbrev pub walked : Result Fact Fault
  walked = stepped (unshown facts (subject_of c.statement).house (names_of (subject_of c.statement)) houses)

  abbrev pub allowed : Access → Statement → Result Fact Fault
  allowed access (Name who name) = walked
  allowed access (Rights who set delegable) =
      cond (grants access (Rights who set delegable)) (cond (shown (HasRight true c.issuer) facts) walked (Err (IssuerNotShown line))) (Err (NotGiven line))

  -- what the line shows, or the lowest number of its faults
  abbrev pub judged : Access → Result Fact Fault
  judged access = cond (known_houses houses) (cond (valid access.day c) (allowed access c.statement) (Err (NotValid line))) (Err (LineOutOfRange line))

abbrev pub followed : List ℕ → Result Fact Fault → Result (Fact × List ℕ) Fault
followed rest (Ok fact) = Ok (fact, rest)
followed rest (Err fault) = Err fault

-- some lines: the facts that the good ones show, and what follows them or the fault of the first that is not good
abbrev pub Checked : Type 0
Checked = List Fact × Result (List ℕ) Fault

abbrev pub going : List Fact → (Fact → List ℕ → Checked) → Result (Fact × List ℕ) Fault → Checked
going facts next (Ok p) = next p.0 p.1
going facts next (Err fault) = (facts, Err fault)

-- the certificates, and what is asked for
module _ (cs : List Certificate) (access : Access) where
  abbrev pub housed : ℕ → List Fact → ℕ → Taken (List ℕ) → Result (Fact × List ℕ) Fault
  housed line facts number None = Err (LineCut line)
  housed line facts number (Some p) = followed p.1 (judged line facts (certificate_at cs number) p.0 access)

  abbrev pub numbered : ℕ → List Fact → Taken ℕ → Result (Fact × List ℕ) Fault
  numbered line facts None = Err (LineCut line)
  numbered line facts (Some p) =
      cond (nat_lt p.0 (length cs)) (housed line facts p.0 (take_numbers (subject_of (certificate_at cs p.0).statement).count p.1)) (Err (LineUnknown line))

  -- one line: what it shows and what follows it, or its fault
  abbrev pub line_checked : ℕ → List Fact → List ℕ → Result (Fact × List ℕ) Fault
  line_checked line facts s = numbered line facts (take_number 2 s)

  unfoldable pub lines_checked : ℕ → ℕ → List Fact → List ℕ → Checked
  lines_checked zero line facts s = (facts, Ok s)
  lines_checked (suc count) line facts s =
      going facts (λ fact rest. lines_checked count (suc line) (fact ∷ facts) rest) (line_checked line facts s)

-- after all lines no bytes are left over, and the house is shown to have the right
abbrev pub concluded : ℕ → List Fact → Result (List ℕ) Fault → Result (Unit {0}) Fault
concluded house facts (Err fault) = Err fault
concluded house facts (Ok (b ∷ rest)) = Err Malformed
concluded house facts (Ok []) = cond (entitled house facts) (Ok tt) (Err HouseNotShown)

-- the facts that a sheet of some lines shows, and whether it holds for the house
abbrev pub check_sheet : List Certificate → Access → ℕ → ℕ → List ℕ → List Fact × Result (Unit {0}) Fault
check_sheet cs access house count s =
    let done = lines_checked cs access count 0 (start access.owner) s in
    (done.0, concluded house done.0 done.1)
