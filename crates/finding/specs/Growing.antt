-- What a request without lines is told: the request with its sheet, or whether the house may, and to which day. Assumes nothing.
use Rattle.certificates.specs.Access.{on_day}
use Rattle.std.specs.Prelude.{◌≡◌, ℕ, ◌⊎◌, Bool, true, false, cond, ◌&&◌, List, [], ◌∷◌, length, Some, None, Ok, Err, vec_items, Vec, Option, option_map, Result, ◌^◌, ◌<◌, ◌≤◌, ◌==◌, nat_le}
use Rattle.certificates.specs.Meaning.{May}
use Rattle.certificates.specs.declared.Certificate.{Certificate}
use Rattle.finding.specs.Asking.{sheet_for, MemoryFilled, Untouched, Unsought}
use Rattle.promise.specs.Requests.{take_head, question_of, receive}
use Rattle.finding.specs.Worth.{Allowed, gate_of, last_day}
use Rattle.finding.specs.declared.sheets_found.Unfound.{Unfound}
use Rattle.finding.specs.declared.sheets_found.Unfound.TheVariants.{NoSheet, TooShort, Malformed, OutOfRange, NoMemory, WrongSize}
use Rattle.finding_lines.specs.Lines.{right_size}
use Rattle.sheets.specs.Passing.{askable}
use Rattle.sheets.specs.Sheets.{Line}
use Rattle.sheets.specs.declared.checking.Question.{Question}
use Rattle.std.specs.Bool.{Decides}
use Rattle.wire.specs.Numbers.{Taken}
use Rattle.certificates.specs.Certificates.{WellFormed}
use Rattle.promise.specs.Promise.{request_bytes}
use Rattle.promise.specs.declared.heads.Head.{Head}
use Rattle.promise.specs.declared.answers.Answer.TheVariants.{Open}
use Rattle.std.specs.List.{AllByRecursion}
use Rattle.std.specs.declared.alloc.Global.{Global}

module _ (cs : List Certificate) (q : Question) where
  -- Whether the house may; where it isn't told there is a reason, and lent memory is as it was.
  abbrev pub MayTold : List ℕ → List ℕ → List ℕ → List ℕ → Result Bool Unfound → Type 0
  MayTold names numbers names' numbers' (Ok may) = Decides may (Allowed cs q) × MemoryFilled cs q names numbers names' numbers'
  MayTold names numbers names' numbers' (Err unfound) = Unsought cs q names numbers names' numbers' unfound

  -- the house may on all days from the question's to this one; without one it may not on the question's. Days end before 2 ^ 32
  abbrev pub MayTo : Option ℕ → Type 0
  MayTo None = Allowed cs q → ⊥
  MayTo (Some last) = (q.access.day < 2 ^ 32 → q.access.day ≤ last) × ((day : ℕ) → q.access.day ≤ day → day ≤ last → May cs (on_day day q.access) q.house)

  -- To which day the sheet holds that is found; where it isn't told there is a reason, and lent memory is as it was.
  abbrev pub UntilTold : List ℕ → List ℕ → List ℕ → List ℕ → Result (Option ℕ) Unfound → Type 0
  UntilTold names numbers names' numbers' (Ok until) =
      (until ≡ option_map (last_day cs) (sheet_for cs q)) × MayTo until × MemoryFilled cs q names numbers names' numbers'
  UntilTold names numbers names' numbers' (Err unfound) = Unsought cs q names numbers names' numbers' unfound

-- A request without lines: looked at as a gate looks at a head; then it has no lines, and nothing follows its head.
abbrev pub without_lines : Head → List ℕ → Result Head Unfound
without_lines h rest =
    cond (nat_le h.house 1023 && nat_le h.right 63)
    (cond (h.lines == 0 && length rest == 0) (Ok h) (Err Malformed))
    (Err OutOfRange)

abbrev pub looked_at : Taken Head → Result Head Unfound
looked_at None = Err Malformed
looked_at (Some p) = without_lines p.0 p.1

abbrev pub bare_head : List ℕ → Result Head Unfound
bare_head request = looked_at (take_head request)

-- the request with its sheet, where the house may
pub record Sheeted (cs : List Certificate) (q : Question) (whole : List ℕ) : Type 0 where
  pub lines : List Line
  pub found : sheet_for cs q ≡ Some lines
  pub whole_is : whole ≡ request_bytes q.house q.access.right lines

module _ (cs : List Certificate) (q : Question) where
  -- what is answered to a request without lines
  abbrev pub SheetTold : List ℕ → List ℕ → List ℕ → List ℕ → Result (Vec ℕ Global) Unfound → Type 0
  SheetTold names numbers names' numbers' (Ok whole) = (askable q ≡ true) × Sheeted cs q (vec_items whole) × MemoryFilled cs q names numbers names' numbers'
  SheetTold names numbers names' numbers' (Err NoSheet) = (sheet_for cs q ≡ None) × MemoryFilled cs q names numbers names' numbers'
  SheetTold names numbers names' numbers' (Err NoMemory) = MemoryFilled cs q names numbers names' numbers' ⊎ Untouched cs q names numbers names' numbers'
  SheetTold names numbers names' numbers' (Err OutOfRange) = (askable q ≡ false) × Untouched cs q names numbers names' numbers'
  SheetTold names numbers names' numbers' (Err WrongSize) = (right_size names numbers ≡ false) × Untouched cs q names numbers names' numbers'
  SheetTold names numbers names' numbers' (Err (TooShort needed)) = ⊥
  SheetTold names numbers names' numbers' (Err Malformed) = ⊥

  -- a request with its sheet is only for a house that may, and opens the gate of the owner; where there is no sheet the house may not
  abbrev pub SheetWorth : Result (Vec ℕ Global) Unfound → Type 0
  SheetWorth (Ok whole) = Allowed cs q × (AllByRecursion WellFormed cs → (receive (gate_of cs q) (vec_items whole)).1 ≡ Open ∷ [])
  SheetWorth (Err NoSheet) = Allowed cs q → ⊥
  SheetWorth (Err NoMemory) = Unit {0}
  SheetWorth (Err OutOfRange) = Unit {0}
  SheetWorth (Err WrongSize) = Unit {0}
  SheetWorth (Err (TooShort needed)) = Unit {0}
  SheetWorth (Err Malformed) = Unit {0}

-- What a request without lines is told, and what that is worth; any other is refused, and nothing is touched.
abbrev pub HeadTold : List Certificate → ℕ → ℕ → List ℕ → List ℕ → List ℕ → List ℕ → Result (Vec ℕ Global) Unfound → Result Head Unfound → Type 0
HeadTold cs day owner names numbers names' numbers' r (Err e) = (r ≡ Err e) × (names' ≡ names) × (numbers' ≡ numbers)
HeadTold cs day owner names numbers names' numbers' r (Ok h) =
    SheetTold cs (question_of day owner h) names numbers names' numbers' r × SheetWorth cs (question_of day owner h) r
