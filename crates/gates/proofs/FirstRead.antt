-- What a gate did with the first event of some bytes tells what was read. Assumes nothing.
use Rattle.std.proofs.Common.{◌≡◌, ℕ, List, Some, None, Option, Result, sym, refl, ap, ap₂}
use Rattle.gates.specs.Gates.{first_read}
use Rattle.promise.specs.States.{State, AfterEvent, take_read}
use Rattle.sheets.proofs.Shown.{impossible}
use Rattle.wire.specs.Numbers.{Taken as Reads}
use Rattle.wire.specs.Reading.{Reading}
use Rattle.wire.specs.declared.events.Event.{Event}
use Rattle.wire.specs.declared.faults.Fault.{Fault}

-- an event, or one that is refused
pub read_taken : (g next : State) (fault : Option Fault) (behind : List ℕ) (r : Reading) → ◌≡◌ {A = State × Reads (Option Fault)} (next, Some (fault, behind)) (first_read g r) →
    (read : Result Event Fault) × (r ≡ Some (read, behind)) × (◌≡◌ {A = AfterEvent} (next, fault) (take_read g read))
read_taken g next fault behind None is =
    let never : ◌≡◌ {A = Reads (Option Fault)} (Some (fault, behind)) None = ap (λ (p : State × Reads (Option Fault)). p.1) is in impossible (cc)
read_taken g next fault behind (Some p) is =
    let read : ◌≡◌ {A = Reads (Option Fault)} (Some (fault, behind)) (Some ((take_read g p.0).1, p.1)) = ap (λ (q : State × Reads (Option Fault)). q.1) is in
    let same : ◌≡◌ {A = Option Fault × List ℕ} (fault, behind) ((take_read g p.0).1, p.1) = cc in (
      p.0,
      ap (λ (rest : List ℕ). Some (p.0, rest)) (sym (ap (λ (q : Option Fault × List ℕ). q.1) same)),
      ap₂ (λ (h : State) (o : Option Fault). (h, o)) (ap (λ (q : State × Reads (Option Fault)). q.0) is) (ap (λ (q : Option Fault × List ℕ). q.0) same),
    )

-- or nothing, and the gate is as it was
pub none_read : (g next : State) (r : Reading) → ◌≡◌ {A = State × Reads (Option Fault)} (next, None) (first_read g r) → (r ≡ None) × (next ≡ g)
none_read g next None is = (refl, ap (λ (p : State × Reads (Option Fault)). p.0) is)
none_read g next (Some p) is =
    let never : ◌≡◌ {A = Reads (Option Fault)} None (Some ((take_read g p.0).1, p.1)) = ap (λ (q : State × Reads (Option Fault)). q.1) is in impossible (cc)
