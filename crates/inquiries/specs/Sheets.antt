-- What a sheet that is found, or the answer that there is none, is worth at a gate after any deliveries. Assumes nothing.
use Rattle.std.specs.Prelude.{◌≡◌, ℕ, List, [], ◌∷◌, Some, Ok, Err, vec_items, Vec, Result}
use Rattle.finding.specs.declared.sheets_found.Unfound.{Unfound}
use Rattle.finding.specs.declared.sheets_found.Unfound.TheVariants.{NoSheet, TooShort, Malformed, OutOfRange, NoMemory, WrongSize}
use Rattle.promise.specs.Promise.{Bytes, MayAfter}
use Rattle.promise.specs.Requests.{take_head, asked, receive, run}
use Rattle.promise.specs.States.{State}
use Rattle.promise.specs.declared.answers.Answer.TheVariants.{Open}
use Rattle.promise.specs.declared.heads.Head.{Head}
use Rattle.std.specs.List.{AllByRecursion}
use Rattle.std.specs.declared.alloc.Global.{Global}
use mathlib.Core.List.{Memᴰ}

-- the delivery is a request of the same house for the same right
pub record AsksLike (h : Head) (d : List ℕ) : Type 0 where
  pub head : Head
  pub rest : List ℕ
  pub read : take_head d ≡ Some (head, rest)
  pub same_house : head.house ≡ h.house
  pub same_right : head.right ≡ h.right

-- after the deliveries the house may not, and no request of it for that right opens the gate
pub record ShutOut (owner : ℕ) (ds : List (List ℕ)) (h : Head) : Type 0 where
  pub may_not : MayAfter ds (asked owner h) h.house → ⊥
  pub never_opens : (d : List ℕ) → Bytes d → AsksLike h d → Memᴰ Open (receive (run owner ds) d).1 → ⊥

-- what is promised of the answer to a request without lines, after some deliveries
abbrev pub Promised : ℕ → List (List ℕ) → Head → Result (Vec ℕ Global) Unfound → Type 0
Promised owner ds h (Ok whole) = ((receive (run owner ds) (vec_items whole)).1 ≡ Open ∷ []) × MayAfter ds (asked owner h) h.house
Promised owner ds h (Err NoSheet) = ShutOut owner ds h
Promised owner ds h (Err NoMemory) = Unit {0}
Promised owner ds h (Err OutOfRange) = Unit {0}
Promised owner ds h (Err WrongSize) = Unit {0}
Promised owner ds h (Err (TooShort needed)) = Unit {0}
Promised owner ds h (Err Malformed) = Unit {0}

-- Whatever the deliveries were by which the gate came about: what is found opens it, and where nothing is found the house is shut out.
abbrev pub SheetKept : State → Result Head Unfound → Result (Vec ℕ Global) Unfound → Type 0
SheetKept g (Err e) r = Unit {0}
SheetKept g (Ok h) r = (ds : List (List ℕ)) → AllByRecursion Bytes ds → g ≡ run g.owner ds → Promised g.owner ds h r
