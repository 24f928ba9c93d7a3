-- What a gate is after some deliveries, told by what happened. Assumes nothing.
use Rattle.certificates.specs.declared.access.Access.{Access}
use Rattle.std.proofs.Common.{◌≡◌, ℕ, ◌↔◌, List, length, sym, ap₂, arith}
use Rattle.certificates.specs.Access.{any_day, on_day}
use Rattle.certificates.specs.Certificates.{WellFormed}
use Rattle.certificates.specs.Meaning.{May}
use Rattle.promise.proofs.Carried.{may_carries}
use Rattle.promise.proofs.Counting.{owner_after, day_after, count_after, well_after}
use Rattle.promise.proofs.Eventful.{after_events, after_happened}
use Rattle.promise.proofs.Readable.{happened_writable}
use Rattle.promise.proofs.Standing.{valid_stand}
use Rattle.promise.specs.States.{State, fresh_gate}
use Rattle.promise.specs.Happened.{happened, today, standing, came}
use Rattle.promise.specs.Promise.{Bytes}
use Rattle.promise.specs.Requests.{run}
use Rattle.std.specs.List.{AllByRecursion}

-- the gate has the owner, counts the days and has as many certificates as came; by these, on any day, those may who may by the standing ones
pub record Ran (owner : ℕ) (ds : List (List ℕ)) (g : State) : Type 0 where
  pub same_owner : g.owner ≡ owner
  pub is_today : g.day ≡ today (happened ds)
  pub all_came : length g.certificates ≡ came (happened ds)
  pub well : AllByRecursion WellFormed g.certificates
  pub same_may : (access : Access) (house : ℕ) → May g.certificates access house ↔ May (standing (happened ds)) access house

-- what is asked for at the gate is asked for by what happened
pub asked_here : {owner : ℕ} {ds : List (List ℕ)} {g : State} → Ran owner ds g → (right : ℕ) →
    on_day g.day (any_day g.owner right) ≡ on_day (today (happened ds)) (any_day owner right)
asked_here r right = ap₂ {C = Access} (λ day o. on_day day (any_day o right)) r.is_today r.same_owner

pub ran : (owner : ℕ) (ds : List (List ℕ)) → AllByRecursion Bytes ds → Ran owner ds (run owner ds)
ran owner ds small =
    let events = happened ds in
    let new = fresh_gate owner in
    let cs = (after_events new events).certificates in
    rw (after_happened new ds) (record {
      same_owner = owner_after new events;
      is_today = omega (arith, day_after new events (omega arith));
      all_came = omega (arith, count_after new events (omega arith));
      well = well_after new events (happened_writable ds small) tt;
      same_may = λ access house. (
        may_carries cs (standing events) access house (valid_stand access.day owner events),
        may_carries (standing events) cs access house (sym (valid_stand access.day owner events)),
      );
    })
