-- What sheets are worth: each is a statement, proved where a function's contract names it. Assumes nothing.
use Rattle.std.specs.Prelude.{◌≡◌, ℕ, ◌*◌, ◌<◌, ◌≤◌, T, ◌⊎◌, ◌↔◌, List, length, Ok}
use Rattle.certificates.specs.Certificates.{subject_of, WellFormed}
use Rattle.certificates.specs.Meaning.{May}
use Rattle.certificates.specs.declared.Certificate.{Certificate}
use Rattle.certificates.specs.declared.access.Access.{Access}
use Rattle.sheets.specs.Bytes.{bytes_of_sheet, Writable}
use Rattle.sheets.specs.Checking.{check_sheet}
use Rattle.sheets.specs.Sheets.{Line, holds}
use Rattle.std.specs.List.{AllByRecursion}
use mathlib.Core.List.{Memᴰ}

-- A sheet that holds for a house shows that the house may.
abbrev pub Sound : Type 0
Sound = (cs : List Certificate) (access : Access) (house : ℕ) (lines : List Line) →
    T (holds cs access lines house) → May cs access house

-- every subject's house is among the houses
abbrev pub Covers : List ℕ → List Certificate → Type 0
Covers houses cs = (c : Certificate) → Memᴰ c cs → Memᴰ (subject_of c.statement).house houses

-- Whoever may has a sheet that holds, of no more lines than certificates times houses.
abbrev pub Complete : Type 0
Complete = (cs : List Certificate) (houses : List ℕ) → Covers houses cs → (access : Access) (house : ℕ) →
    May cs access house → (lines : List Line) × T (holds cs access lines house) × (length lines ≤ length cs * length houses)

-- Whether a house may is decided, whatever rings the names make.
abbrev pub Decided : Type 0
Decided = (cs : List Certificate) (access : Access) (house : ℕ) → May cs access house ⊎ (May cs access house → ⊥)

-- The check says that a sheet holds exactly where the bytes are those of so many lines that hold.
abbrev pub ChecksExactly : Type 0
ChecksExactly = (cs : List Certificate) → AllByRecursion WellFormed cs → length cs ≤ 1024 → (access : Access) (house count : ℕ) (s : List ℕ) → AllByRecursion (λ b. b < 256) s →
    ((check_sheet cs access house count s).1 ≡ Ok tt) ↔
    ((lines : List Line) × (length lines ≡ count) × AllByRecursion (Writable cs) lines × (s ≡ bytes_of_sheet lines) × T (holds cs access lines house))

-- Every line of a sheet that holds can be written.
abbrev pub HoldsWritable : Type 0
HoldsWritable = (cs : List Certificate) → AllByRecursion WellFormed cs → (access : Access) (house : ℕ) (lines : List Line) →
    T (holds cs access lines house) → AllByRecursion (Writable cs) lines
