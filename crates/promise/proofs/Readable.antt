-- All events that deliveries hold can be written: their certificates are well formed. Assumes nothing.
use Rattle.std.proofs.Common.{ℕ, zero, suc, List, [], ◌∷◌, length, Some, None, Ok, Err, Result, refl}
use Rattle.promise.specs.Happened.{noted, first_noted, is_request, events_within, events_of, happened}
use Rattle.promise.specs.Promise.{Bytes}
use Rattle.sheets.proofs.LineRead.{bytes_rest}
use Rattle.std.proofs.ByRecursion.{All-append}
use Rattle.std.proofs.lemmas.Bool.{cond_both}
use Rattle.std.specs.List.{AllByRecursion}
use Rattle.wire.proofs.Exact.{exactly}
use Rattle.wire.specs.Exact.{Writable, Exactly, fields_bytes}
use Rattle.wire.specs.Format.{bytes_of_event}
use Rattle.wire.specs.Reading.{Reading, event_read}
use Rattle.wire.specs.declared.events.Event.{Event}
use Rattle.wire.specs.declared.faults.Fault.{Fault}

module _ (s : List ℕ) where
  pub rest_bytes : (read : Result Event Fault) (rest : List ℕ) → Exactly s (Some (read, rest)) → Bytes s → Bytes rest
  rest_bytes (Ok e) rest exact small = bytes_rest (bytes_of_event e) rest (rw ((exact.reads e rest).0 refl).1 at small)
  rest_bytes (Err fault) rest exact small =
      let (f, fits, faulty, is) = ((exact.refuses fault rest).0 refl).1 in
      bytes_rest (1 ∷ fields_bytes f) rest (rw is at small)

  noted_writable : (read : Result Event Fault) (rest : List ℕ) → Exactly s (Some (read, rest)) → (events : List Event) → AllByRecursion Writable events →
      AllByRecursion Writable (noted read events)
  noted_writable (Ok e) rest exact events behind = (((exact.reads e rest).0 refl).0, behind)
  noted_writable (Err fault) rest exact events behind = behind

  first_writable : (next : List ℕ → List Event) → ((rest : List ℕ) → Bytes rest → AllByRecursion Writable (next rest)) → (r : Reading) → Exactly s r → Bytes s →
      AllByRecursion Writable (first_noted r next)
  first_writable next behind None exact small = tt
  first_writable next behind (Some p) exact small = noted_writable p.0 p.1 exact (next p.1) (behind p.1 (rest_bytes p.0 p.1 exact small))

within_writable : (n : ℕ) (s : List ℕ) → Bytes s → AllByRecursion Writable (events_within n s)
unfolding events_within
within_writable zero s small = tt
within_writable (suc n) [] small = tt
within_writable (suc n) (b ∷ s) small =
    first_writable (b ∷ s) (events_within n) (within_writable n) (event_read (b ∷ s)) (exactly (b ∷ s) small) small

events_writable : (d : List ℕ) → Bytes d → AllByRecursion Writable (events_of d)
events_writable d small = cond_both (is_request d) _ _ (AllByRecursion Writable) (λ request. tt) (λ events. within_writable (length d) d small)

pub happened_writable : (ds : List (List ℕ)) → AllByRecursion Bytes ds → AllByRecursion Writable (happened ds)
happened_writable [] small = tt
happened_writable (d ∷ ds) small = All-append Writable (events_of d) (happened ds) (events_writable d small.0) (happened_writable ds small.1)
