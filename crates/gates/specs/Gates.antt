-- What a gate holds, and why there is none or no answer. Assumes nothing.
use Rattle.std.specs.Prelude.{◌≡◌, ℕ, ◌*◌, ◌<◌, ◌≤◌, true, length, Some, None, Option}
use Rattle.gates.specs.declared.Gate.{Gate}
use Rattle.gates.specs.declared.troubles.Trouble.{Trouble}
use Rattle.gates.specs.declared.troubles.Trouble.TheVariants.{UnknownHouse, NoMemory, ShortMemory}
use Rattle.promise.specs.Requests.{question_of}
use Rattle.promise.specs.States.{State, take_read}
use Rattle.promise.specs.declared.heads.Head.{Head}
use Rattle.registry.specs.Numbered.{certificates_of}
use Rattle.sheets.specs.Passing.{askable}
use Rattle.wire.specs.Numbers.{Taken}
use Rattle.wire.specs.Reading.{Reading}
use Rattle.wire.specs.declared.faults.Fault.{Fault}

abbrev pub state_of : Gate → State
state_of g = record { owner = g.owner; day = g.day; certificates = certificates_of g.registry }

-- what a gate holds after the first event that was read, the fault where it is refused, and what follows it
abbrev pub first_read : State → Reading → State × Taken (Option Fault)
first_read g None = (g, None)
first_read g (Some p) = ((take_read g p.0).0, Some ((take_read g p.0).1, p.1))

-- a gate that there is gives no answer only where memory can't be had, or where the lent memory has too few words
abbrev pub Unanswered : Trouble → ℕ → Type 0
Unanswered UnknownHouse words = ⊥
Unanswered NoMemory words = Unit {0}
Unanswered ShortMemory words = words < 16384

-- the head of a request is read, asks what may be asked, and has no more lines than there may be: so the lines are looked at
abbrev pub LinesLookedAt : State → Taken Head → Type 0
LinesLookedAt g None = ⊥
LinesLookedAt g (Some (h, rest)) = (askable (question_of g.day g.owner h) ≡ true) × (h.lines ≤ length g.certificates * 1024)
