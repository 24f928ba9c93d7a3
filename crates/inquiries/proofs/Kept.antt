-- What a sheet that is found, or that there is none, means after the deliveries by which a gate came about. Assumes nothing.
use Rattle.certificates.specs.Meaning.{May}
use Rattle.certificates.specs.Access.{on_day}
use Rattle.certificates.specs.declared.access.Access.{Access}
use Rattle.std.proofs.Common.{◌≡◌, ℕ, ◌<◌, List, Some, Ok, Err, Vec, Result, sym, ap, ◌∙◌, subst}
use Rattle.promise.specs.Requests.{asked, question_of, run}
use Rattle.finding.specs.Growing.{SheetWorth, HeadTold}
use Rattle.finding.specs.Worth.{Allowed}
use Rattle.finding.specs.declared.sheets_found.Unfound.{Unfound}
use Rattle.finding.specs.declared.sheets_found.Unfound.TheVariants.{NoSheet, TooShort, Malformed, OutOfRange, NoMemory, WrongSize}
use Rattle.inquiries.specs.Sheets.{ShutOut, Promised, SheetKept}
use Rattle.promise.proofs.Promised.{main}
use Rattle.promise.proofs.Ran.{Ran, asked_here, ran}
use Rattle.promise.specs.Happened.{happened, today}
use Rattle.promise.specs.Promise.{Bytes, MayAfter}
use Rattle.promise.specs.States.{State}
use Rattle.promise.specs.declared.heads.Head.{Head}
use Rattle.std.specs.List.{AllByRecursion}
use Rattle.std.specs.declared.alloc.Global.{Global}

-- at the gate after the deliveries
module _ (owner : ℕ) (ds : List (List ℕ)) (small : AllByRecursion Bytes ds) (h : Head) where
  abbrev pub here : State
  here = run owner ds

  abbrev AllowedHere : Type 0
  AllowedHere = Allowed here.certificates (question_of here.day here.owner h)

  r : Ran owner ds here
  r = ran owner ds small

  abbrev then : Access
  then = on_day (today (happened ds)) (asked owner h)

  may_after : AllowedHere → MayAfter ds (asked owner h) h.house
  may_after may = (r.same_may then h.house).0 (subst (λ (a : Access). May here.certificates a h.house) (asked_here r h.right) may)

  may_here : MayAfter ds (asked owner h) h.house → AllowedHere
  may_here may = subst (λ (a : Access). May here.certificates a h.house) (sym (asked_here r h.right)) ((r.same_may then h.house).1 may)

  shut_out : owner < 1024 → (AllowedHere → ⊥) → ShutOut owner ds h
  shut_out known none = record {
    may_not = λ may. none (may_here may);
    never_opens = λ d bytes asks opens.
        let (h', rest, read, may) = (main.0 owner known ds small).only d bytes opens in
        let same : Some (asks.head, asks.rest) ≡ Some (h', rest) = sym asks.read ∙ read in
        let pairs : (asks.head, asks.rest) ≡ (h', rest) = cc in
        let heads : asks.head ≡ h' = ap (λ (p : Head × List ℕ). p.0) pairs in
        let house : h'.house ≡ h.house = sym (ap (λ (x : Head). x.house) heads) ∙ asks.same_house in
        let right : h'.right ≡ h.right = sym (ap (λ (x : Head). x.right) heads) ∙ asks.same_right in
        none (may_here (rw (house, right) at may));
  }

  kept_here : owner < 1024 → (result : Result (Vec ℕ Global) Unfound) → SheetWorth here.certificates (question_of here.day here.owner h) result → Promised owner ds h result
  kept_here known (Ok whole) (may, opens) = (opens r.well, may_after may)
  kept_here known (Err NoSheet) none = shut_out known none
  kept_here known (Err NoMemory) worth = tt
  kept_here known (Err OutOfRange) worth = tt
  kept_here known (Err WrongSize) worth = tt
  kept_here known (Err (TooShort needed)) worth = tt
  kept_here known (Err Malformed) worth = tt

worth_at : (g g' : State) → g ≡ g' → (h : Head) (result : Result (Vec ℕ Global) Unfound) →
    SheetWorth g.certificates (question_of g.day g.owner h) result → SheetWorth g'.certificates (question_of g'.day g'.owner h) result
worth_at g g' same h result worth = subst (λ (x : State). SheetWorth x.certificates (question_of x.day x.owner h) result) same worth

pub sheet_kept : (g : State) → g.owner < 1024 → (asked : Result Head Unfound) (names numbers names' numbers' : List ℕ) (result : Result (Vec ℕ Global) Unfound) →
    HeadTold g.certificates g.day g.owner names numbers names' numbers' result asked → SheetKept g asked result
sheet_kept g known (Err e) names numbers names' numbers' result told = tt
sheet_kept g known (Ok h) names numbers names' numbers' result told = λ ds small from.
    kept_here g.owner ds small h known result (worth_at g (run g.owner ds) from h result told.1)
