-- Why a delivery was not taken, and one that is empty. Assumes nothing.
use Rattle.promise.specs.Requests.{onto, receive}
use Rattle.promise.specs.States.{State, deliver_within}
use Rattle.promise.specs.declared.answers.Answer.{Answer}
use Rattle.std.proofs.Common.{◌≡◌, ℕ, ◌<◌, true, eqb, List, [], ◌∷◌, length, sym, ap, append-nil, true-eqb, arith}
use Rattle.gates_deliveries.specs.Lists.{Untaken}
use Rattle.promise.specs.Happened.{is_request}
use Rattle.gates.specs.Gates.{Unanswered}
use Rattle.gates.specs.declared.troubles.Trouble.{Trouble}
use Rattle.gates.specs.declared.troubles.Trouble.TheVariants.{UnknownHouse, NoMemory, ShortMemory}

pub untaken_request : (t : Trouble) (d : List ℕ) (words : ℕ) → is_request d ≡ true → 0 < length d → Unanswered t words → Untaken t d words
untaken_request UnknownHouse d words asked some why = why
untaken_request NoMemory d words asked some why = some
untaken_request ShortMemory d words asked some why = (asked, why)

pub untaken_events : (t : Trouble) (d : List ℕ) (words : ℕ) → 0 < length d → t ≡ NoMemory → Untaken t d words
untaken_events t d words some why = rw why some

-- an empty delivery changes nothing and has no answers
pub nothing_received : (g : State) (answers : List Answer) (d : List ℕ) → true ≡ eqb (length d) 0 → (g, answers) ≡ onto answers (receive g d)
unfolding deliver_within
nothing_received g answers [] none = ap (λ (given : List Answer). (g, given)) (sym (append-nil answers))
nothing_received g answers (b ∷ d) none = let never : ⊥ = omega (arith, true-eqb (length (b ∷ d)) 0 none) in absurd never
