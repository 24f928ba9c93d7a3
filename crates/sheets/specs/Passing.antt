-- What lines leave behind when they pass the check, and when one does not. Assumes nothing.
use Rattle.std.specs.Prelude.{◌≡◌, ℕ, ◌≤◌, Bool, cond, ◌&&◌, ◌||◌, List, [], ◌∷◌, length, replicate, Ok, Err, Result, nat_le}
use Rattle.certificates.specs.declared.Certificate.{Certificate}
use Rattle.facts.specs.Table.{bit_at}
use Rattle.sheets.specs.Checking.{line_checked, lines_checked, check_sheet}
use Rattle.sheets.specs.Facts.{Fact}
use Rattle.sheets.specs.Memory.{note_name, note_right, names_table, Remembers}
use Rattle.sheets.specs.Sheets.{fact_of}
use Rattle.sheets.specs.declared.checking.Question.{Question}
use Rattle.sheets.specs.declared.checking.ShortMemory.{ShortMemory}
use Rattle.wire.specs.declared.faults.Fault.{Fault}
use Rattle.wire.specs.declared.faults.Fault.TheVariants.{Malformed, OutOfRange, HouseNotShown}
use Rattle.std.specs.Borrow.{Bor}

-- a reader's answer, with its part of the slice as a list
abbrev pub rest_of : Result (Bor (List ℕ)) Fault → Result (List ℕ) Fault
rest_of (Ok rest) = Ok rest.now
rest_of (Err fault) = Err fault

-- what a line that was judged leaves in memory: a good one what it shows, any other nothing
abbrev pub names_after : List Certificate → Certificate → Result ℕ Fault → List ℕ → List ℕ
names_after cs c (Ok last) names = note_name cs (fact_of c last) names
names_after cs c (Err fault) names = names

abbrev pub rights_after : Certificate → Result ℕ Fault → List ℕ → List ℕ
rights_after c (Ok last) rights = note_right (fact_of c last) rights
rights_after c (Err fault) rights = rights

-- certificates, a question, bytes, and the memory of names and of rights before and after
module _ (cs : List Certificate) (q : Question) where
  -- a good line is remembered too, and one that is not leaves the memory as it was
  abbrev pub AfterLine : List Fact → ℕ → List ℕ → List ℕ → List ℕ → List ℕ → List ℕ → Result (List ℕ) Fault → Type 0
  AfterLine facts line s names rights names' rights' (Ok rest) =
      (fact : Fact) × (line_checked cs q.access line facts s ≡ Ok (fact, rest)) × Remembers cs (fact ∷ facts) names' rights'
  AfterLine facts line s names rights names' rights' (Err fault) =
      (line_checked cs q.access line facts s ≡ Err fault) × (names' ≡ names) × (rights' ≡ rights)

  -- one line, whatever facts the memory holds
  abbrev pub LinePassed : ℕ → List ℕ → List ℕ → List ℕ → List ℕ → List ℕ → Result (List ℕ) Fault → Type 0
  LinePassed line s names rights names' rights' r =
      (facts : List Fact) → Remembers cs facts names rights → AfterLine facts line s names rights names' rights' r

  -- some lines: the answer is that of their definition, and the memory holds the facts that the good ones show
  abbrev pub LinesPassed : ℕ → List ℕ → List ℕ → List ℕ → List ℕ → List ℕ → Result (List ℕ) Fault → Type 0
  LinesPassed count s names rights names' rights' r =
      (facts : List Fact) → Remembers cs facts names rights →
      ((lines_checked cs q.access count 0 facts s).1 ≡ r) × Remembers cs (lines_checked cs q.access count 0 facts s).0 names' rights'

-- the house is shown to have the right, by the memory of rights
abbrev pub entitled_by : List ℕ → ℕ → Bool
entitled_by rights house = bit_at rights 0 house || bit_at rights 1 house

abbrev pub concluded_by : Bool → List ℕ → Result (Unit {0}) Fault
concluded_by entitled (b ∷ rest) = Err Malformed
concluded_by entitled [] = cond entitled (Ok tt) (Err HouseNotShown)

-- houses and a right that there may be
abbrev pub askable : Question → Bool
askable q = nat_le q.access.owner 1023 && (nat_le q.house 1023 && nat_le q.access.right 63)

-- memory of enough words, all zero
pub record Wiped (memory : List ℕ) : Type 0 where
  pub zeros : memory ≡ replicate (length memory) 0
  pub long : 16384 ≤ length memory

-- the facts that the sheet shows, and whether it holds
abbrev pub check_for : List Certificate → Question → ℕ → List ℕ → List Fact × Result (Unit {0}) Fault
check_for cs q count s = check_sheet cs q.access q.house count s

-- the answer is that of the definition, and the memory holds the facts that the good lines show
pub record Done (cs : List Certificate) (q : Question) (count : ℕ) (s memory : List ℕ) (r : Result (Unit {0}) Fault) : Type 0 where
  pub answer : r ≡ (check_for cs q count s).1
  pub holds : memory ≡ names_table cs (check_for cs q count s).0 (replicate (length memory) 0)

-- the answer of the check, by the words of its memory
abbrev pub answered : List Certificate → Question → ℕ → List ℕ → ℕ → Result (Result (Unit {0}) Fault) ShortMemory
answered cs q count s words =
    cond (nat_le 16384 words) (Ok (cond (askable q) (check_for cs q count s).1 (Err OutOfRange))) (Err (record {}))

-- what it leaves in its memory
abbrev pub left_in : List Certificate → Question → ℕ → List ℕ → List ℕ → List ℕ
left_in cs q count s memory =
    cond (nat_le 16384 (length memory) && askable q) (names_table cs (check_for cs q count s).0 (replicate (length memory) 0)) memory
