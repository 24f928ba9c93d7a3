-- What happened, read off the deliveries alone: no gate is in it. Assumes nothing.
use Rattle.std.specs.Prelude.{ℕ, zero, suc, min, Bool, false, cond, ◌||◌, List, [], ◌∷◌, length, Some, None, Ok, Err, Result, ◌==◌, nat_lt}
use Rattle.certificates.specs.declared.Certificate.{Certificate}
use Rattle.std.specs.List.{flat_map}
use Rattle.wire.specs.Reading.{Reading, event_read}
use Rattle.wire.specs.declared.events.Event.{Event}
use Rattle.wire.specs.declared.events.Event.TheVariants.{Issued, Revoked, DayPassed}
use Rattle.wire.specs.declared.faults.Fault.{Fault}

-- what is refused is no event
abbrev pub noted : Result Event Fault → List Event → List Event
noted (Ok e) events = e ∷ events
noted (Err fault) events = events

-- the first event of some bytes, and then those behind it; where none can be read, there are no more
abbrev pub first_noted : Reading → (List ℕ → List Event) → List Event
first_noted None next = []
first_noted (Some p) next = noted p.0 (next p.1)

-- the events that some bytes hold, at most n
unfoldable pub events_within : ℕ → List ℕ → List Event
events_within zero s = []
events_within (suc n) [] = []
events_within (suc n) (b ∷ s) = first_noted (event_read (b ∷ s)) (events_within n)

-- a delivery that is a request: its first byte is 4
abbrev pub is_request : List ℕ → Bool
is_request [] = false
is_request (b ∷ s) = b == 4

-- a request holds no events; in any other delivery there are no more events than bytes
abbrev pub events_of : List ℕ → List Event
events_of d = cond (is_request d) [] (events_within (length d) d)

-- all events, in the order in which they came
abbrev pub happened : List (List ℕ) → List Event
happened ds = flat_map events_of ds

-- how many days passed
unfoldable pub days_in : List Event → ℕ
days_in [] = 0
days_in (Issued c ∷ events) = days_in events
days_in (Revoked n ∷ events) = days_in events
days_in (DayPassed ∷ events) = suc (days_in events)

-- the day: days are counted to the last that 32 bits hold
abbrev pub today : List Event → ℕ
today events = min (days_in events) 4294967295

-- some event takes the number back
unfoldable pub takes_back : ℕ → List Event → Bool
takes_back i [] = false
takes_back i (Issued c ∷ events) = takes_back i events
takes_back i (Revoked n ∷ events) = n == i || takes_back i events
takes_back i (DayPassed ∷ events) = takes_back i events

-- the certificates that came and were not taken back later; the next one gets the number i, and a 1,025th is none
unfoldable pub standing_from : ℕ → List Event → List Certificate
standing_from i [] = []
standing_from i (Issued c ∷ events) =
    cond (nat_lt i 1024) (cond (takes_back i events) (standing_from (suc i) events) (c ∷ standing_from (suc i) events)) (standing_from i events)
standing_from i (Revoked n ∷ events) = standing_from i events
standing_from i (DayPassed ∷ events) = standing_from i events

abbrev pub standing : List Event → List Certificate
standing events = standing_from 0 events

-- how many certificates came, of at most 1,024
unfoldable pub issued_in : List Event → ℕ
issued_in [] = 0
issued_in (Issued c ∷ events) = suc (issued_in events)
issued_in (Revoked n ∷ events) = issued_in events
issued_in (DayPassed ∷ events) = issued_in events

abbrev pub came : List Event → ℕ
came events = min (issued_in events) 1024
