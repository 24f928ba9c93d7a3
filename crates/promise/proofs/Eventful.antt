-- A gate after some deliveries is the gate after the events that they hold. Assumes nothing.
use Rattle.std.proofs.Common.{◌≡◌, ℕ, zero, suc, Bool, true, false, cond, List, [], ◌∷◌, ◌++◌, length, Some, None, Ok, Err, Option, Result, sym, refl, ap, ◌∙◌}
use Rattle.promise.specs.States.{State, take, take_read, first_taken, Delivered, noting, deliver_within}
use Rattle.promise.specs.Happened.{noted, first_noted, is_request, events_within, events_of, happened}
use Rattle.promise.specs.Requests.{receive, after}
use Rattle.promise.specs.declared.answers.Answer.{Answer}
use Rattle.wire.specs.Reading.{Reading, event_read}
use Rattle.wire.specs.declared.events.Event.{Event}
use Rattle.wire.specs.declared.faults.Fault.{Fault}

-- the gate after some events, one after the other
unfoldable pub after_events : State → List Event → State
after_events g [] = g
after_events g (e ∷ events) = after_events (take g e).0 events

after_both : (g : State) (events more : List Event) → after_events g (events ++ more) ≡ after_events (after_events g events) more
unfolding after_events
after_both g [] more = refl
after_both g (e ∷ events) more = after_both (take g e).0 events more

noting_leaves : (fault : Option Fault) (d : Delivered) → (noting fault d).0 ≡ d.0
noting_leaves None d = refl
noting_leaves (Some fault) d = refl

within_events : (n : ℕ) (g : State) (s : List ℕ) → (deliver_within n g s).0 ≡ after_events g (events_within n s)
unfolding deliver_within events_within after_events
within_events zero g s = refl
within_events (suc n) g [] = refl
within_events (suc n) g (b ∷ s) = first (within_events n) (event_read (b ∷ s))
  where
    taken : ((g : State) (s : List ℕ) → (deliver_within n g s).0 ≡ after_events g (events_within n s)) → (read : Result Event Fault) (rest : List ℕ) →
        (noting (take_read g read).1 (deliver_within n (take_read g read).0 rest)).0 ≡ after_events g (noted read (events_within n rest))
    taken behind (Ok e) rest = noting_leaves (take g e).1 (deliver_within n (take g e).0 rest) ∙ behind (take g e).0 rest
    taken behind (Err fault) rest = behind g rest

    first : ((g : State) (s : List ℕ) → (deliver_within n g s).0 ≡ after_events g (events_within n s)) → (r : Reading) →
        (first_taken g r (deliver_within n)).0 ≡ after_events g (first_noted r (events_within n))
    first behind None = refl
    first behind (Some p) = taken behind p.0 p.1

receive_events : (g : State) (d : List ℕ) → (receive g d).0 ≡ after_events g (events_of d)
unfolding after_events
receive_events g d = by_kind (is_request d) _ _ _ (within_events (length d) g d)
  where
    by_kind : (t : Bool) (asked : List Answer) (told : State × List Answer) (events : List Event) → told.0 ≡ after_events g events →
        (cond t (g, asked) told).0 ≡ after_events g (cond t [] events)
    by_kind true asked told events same = refl
    by_kind false asked told events same = same

pub after_happened : (g : State) (ds : List (List ℕ)) → after g ds ≡ after_events g (happened ds)
unfolding after after_events
after_happened g [] = refl
after_happened g (d ∷ ds) =
    after_happened (receive g d).0 ds ∙ (ap (λ s. after_events s (happened ds)) (receive_events g d) ∙ sym (after_both g (events_of d) (happened ds)))
