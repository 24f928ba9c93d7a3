-- A gate after some events: its owner, the day, how many certificates it has and that they are well formed. Assumes nothing.
use Rattle.std.proofs.Common.{◌≡◌, ℕ, zero, suc, ◌+◌, ◌≤◌, min, List, [], ◌∷◌, ◌++◌, length, refl, arith}
use Rattle.certificates.specs.Certificates.{WellFormed, revoked_of}
use Rattle.certificates.specs.declared.Certificate.{Certificate}
use Rattle.promise.proofs.Eventful.{after_events}
use Rattle.promise.proofs.Once.{holding, on_day, once_issued, once_revoked, once_passed}
use Rattle.promise.specs.States.{State, revoke_at}
use Rattle.promise.specs.Happened.{days_in, issued_in}
use Rattle.registry.proofs.Kept.{length_revoked}
use Rattle.std.proofs.ByRecursion.{All-push}
use Rattle.std.proofs.lemmas.List.{length_push}
use Rattle.std.specs.List.{AllByRecursion}
use Rattle.wire.specs.Exact.{Writable}
use Rattle.wire.specs.declared.events.Event.{Event}
use Rattle.wire.specs.declared.events.Event.TheVariants.{Issued, Revoked, DayPassed}

revoked_well : (c : Certificate) → WellFormed c → WellFormed (revoked_of c)
revoked_well c w = record {
  issuer_known = w.issuer_known;
  first_fits = omega arith;
  last_fits = omega arith;
  subject_formed = w.subject_formed;
  sensible = w.sensible;
}

revoke_at_well : (i : ℕ) (cs : List Certificate) → AllByRecursion WellFormed cs → AllByRecursion WellFormed (revoke_at i cs)
unfolding revoke_at
revoke_at_well i [] well = tt
revoke_at_well zero (c ∷ cs) well = (revoked_well c well.0, well.1)
revoke_at_well (suc i) (c ∷ cs) well = (well.0, revoke_at_well i cs well.1)

module _ (events : List Event) where
  -- of the gate at which the events begin: what its owner, its day and its certificates are after them
  abbrev OwnerIs : ℕ → State → Type 0
  OwnerIs owner g = (after_events g events).owner ≡ owner

  abbrev DayIs : ℕ → State → Type 0
  DayIs n g = (after_events g events).day ≡ min n 4294967295

  abbrev CountIs : ℕ → State → Type 0
  CountIs n g = length (after_events g events).certificates ≡ min n 1024

  abbrev StaysWell : State → Type 0
  StaysWell g = AllByRecursion WellFormed (after_events g events).certificates

pub owner_after : (g : State) (events : List Event) → OwnerIs events g.owner g
unfolding after_events
owner_after g [] = refl
owner_after g (Issued c ∷ events) =
    once_issued g (OwnerIs events g.owner) c (λ room. owner_after (holding g (g.certificates ++ (c ∷ []))) events) (λ full. owner_after g events)
owner_after g (Revoked n ∷ events) =
    once_revoked g (OwnerIs events g.owner) n (λ known. owner_after (holding g (revoke_at n g.certificates)) events) (λ unknown. owner_after g events)
owner_after g (DayPassed ∷ events) = once_passed g (OwnerIs events g.owner) (λ next. owner_after (on_day g (g.day + 1)) events) (λ last. owner_after g events)

pub day_after : (g : State) (events : List Event) → g.day ≤ 4294967295 → DayIs events (g.day + days_in events) g
unfolding after_events days_in
day_after g [] most = omega arith
day_after g (Issued c ∷ events) most =
    once_issued g (DayIs events (g.day + days_in events)) c (λ room. day_after (holding g (g.certificates ++ (c ∷ []))) events most) (λ full. day_after g events most)
day_after g (Revoked n ∷ events) most =
    once_revoked g (DayIs events (g.day + days_in events)) n (λ known. day_after (holding g (revoke_at n g.certificates)) events most) (λ unknown. day_after g events most)
day_after g (DayPassed ∷ events) most =
    once_passed g (DayIs events (g.day + suc (days_in events)))
    (λ next. omega (arith, day_after (on_day g (g.day + 1)) events (omega arith))) (λ last. omega (arith, day_after g events most))

pub count_after : (g : State) (events : List Event) → length g.certificates ≤ 1024 → CountIs events (length g.certificates + issued_in events) g
unfolding after_events issued_in
count_after g [] few = omega arith
count_after g (Issued c ∷ events) few =
    let more = g.certificates ++ (c ∷ []) in
    let one = length_push g.certificates c in
    once_issued g (CountIs events (length g.certificates + suc (issued_in events))) c
    (λ room. omega (arith, one, count_after (holding g more) events (omega arith))) (λ full. omega (arith, count_after g events few))
count_after g (Revoked n ∷ events) few =
    let same = length_revoked n g.certificates in
    once_revoked g (CountIs events (length g.certificates + issued_in events)) n
    (λ known. omega (arith, same, count_after (holding g (revoke_at n g.certificates)) events (omega arith))) (λ unknown. count_after g events few)
count_after g (DayPassed ∷ events) few =
    once_passed g (CountIs events (length g.certificates + issued_in events)) (λ next. count_after (on_day g (g.day + 1)) events few) (λ last. count_after g events few)

pub well_after : (g : State) (events : List Event) → AllByRecursion Writable events → AllByRecursion WellFormed g.certificates → StaysWell events g
unfolding after_events
well_after g [] writable well = well
well_after g (Issued c ∷ events) writable well =
    once_issued g (StaysWell events) c
    (λ room. well_after (holding g (g.certificates ++ (c ∷ []))) events writable.1 (All-push WellFormed g.certificates c well writable.0))
    (λ full. well_after g events writable.1 well)
well_after g (Revoked n ∷ events) writable well =
    once_revoked g (StaysWell events) n
    (λ known. well_after (holding g (revoke_at n g.certificates)) events writable.1 (revoke_at_well n g.certificates well))
    (λ unknown. well_after g events writable.1 well)
well_after g (DayPassed ∷ events) writable well =
    once_passed g (StaysWell events) (λ next. well_after (on_day g (g.day + 1)) events writable.1 well) (λ last. well_after g events writable.1 well)
