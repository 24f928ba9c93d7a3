-- What a gate holds and what it does on each event. Assumes nothing.
use Rattle.std.specs.Prelude.{ℕ, zero, suc, ◌+◌, cond, List, [], ◌∷◌, ◌++◌, length, Some, None, Ok, Err, Option, Result, nat_lt}
use Rattle.certificates.specs.declared.Certificate.{Certificate}
unfoldable pub use Rattle.registry.specs.Numbered.{revoke_at}
use Rattle.wire.specs.Reading.{Reading, event_read}
use Rattle.wire.specs.declared.events.Event.{Event}
use Rattle.wire.specs.declared.events.Event.TheVariants.{Issued, Revoked, DayPassed}
use Rattle.wire.specs.declared.faults.Fault.{Fault}
use Rattle.wire.specs.declared.faults.Fault.TheVariants.{Malformed, TooManyCertificates, UnknownCertificate, LastDay}

-- its owner, the day, and the certificates by number
pub record State : Type 0 where
  pub owner : ℕ
  pub day : ℕ
  pub certificates : List Certificate

abbrev pub fresh_gate : ℕ → State
fresh_gate owner = record { owner = owner; day = 0; certificates = [] }

-- what it holds afterwards, and the fault where the event is refused
abbrev pub AfterEvent : Type 0
AfterEvent = State × Option Fault

-- a certificate gets the next number, as long as there are no more than 1,024
abbrev pub issue : State → Certificate → AfterEvent
issue g c =
    cond (nat_lt (length g.certificates) 1024)
    (record { owner = g.owner; day = g.day; certificates = g.certificates ++ (c ∷ []) }, None)
    (g, Some TooManyCertificates)

-- a certificate that has the number is valid on no day from then on
abbrev pub revoke : State → ℕ → AfterEvent
revoke g number =
    cond (nat_lt number (length g.certificates))
    (record { owner = g.owner; day = g.day; certificates = revoke_at number g.certificates }, None)
    (g, Some UnknownCertificate)

-- days are counted to the last that 32 bits hold
abbrev pub day_passed : State → AfterEvent
day_passed g =
    cond (nat_lt g.day 4294967295)
    (record { owner = g.owner; day = g.day + 1; certificates = g.certificates }, None)
    (g, Some LastDay)

abbrev pub take : State → Event → AfterEvent
take g (Issued c) = issue g c
take g (Revoked number) = revoke g number
take g DayPassed = day_passed g

-- what was read is taken, or refused by its fault
abbrev pub take_read : State → Result Event Fault → AfterEvent
take_read g (Ok e) = take g e
take_read g (Err fault) = (g, Some fault)

-- the gate after some events, and the faults of those that it refused, in their order
abbrev pub Delivered : Type 0
Delivered = State × List Fault

abbrev pub noting : Option Fault → Delivered → Delivered
noting None d = d
noting (Some fault) d = (d.0, fault ∷ d.1)

-- the first event of some bytes, and then those behind it; where none can be read, nothing more is
abbrev pub first_taken : State → Reading → (State → List ℕ → Delivered) → Delivered
first_taken g None next = (g, Malformed ∷ [])
first_taken g (Some p) next = noting (take_read g p.0).1 (next (take_read g p.0).0 p.1)

-- at most n events, one after the other
unfoldable pub deliver_within : ℕ → State → List ℕ → Delivered
deliver_within zero g s = (g, [])
deliver_within (suc n) g [] = (g, [])
deliver_within (suc n) g (b ∷ s) = first_taken g (event_read (b ∷ s)) (deliver_within n)

-- A delivery: each event has at least one byte, so there are no more events than bytes.
abbrev pub deliver : State → List ℕ → Delivered
deliver g s = deliver_within (length s) g s
