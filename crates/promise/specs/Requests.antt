-- What a gate answers to a request, and to a delivery of either kind. Assumes nothing.
use Rattle.std.specs.Prelude.{◌≡◌, ℕ, ◌+◌, ◌*◌, ◌<◌, cond, ◌&&◌, List, [], ◌∷◌, ◌++◌, map, length, replicate, Some, None, Ok, Err, Result, ◌==◌, nat_le}
use Rattle.certificates.specs.Access.{any_day, on_day}
use Rattle.certificates.specs.declared.Certificate.{Certificate}
use Rattle.certificates.specs.declared.access.Access.{Access}
use Rattle.promise.specs.Happened.{is_request}
use Rattle.promise.specs.States.{State, fresh_gate, Delivered, deliver}
pub use Rattle.promise.specs.declared.heads.Head.{Head}
use Rattle.promise.specs.declared.answers.Answer.{Answer}
use Rattle.promise.specs.declared.answers.Answer.TheVariants.{Open, Refused}
use Rattle.sheets.specs.Bytes.{longest_line}
use Rattle.sheets.specs.Passing.{check_for}
use Rattle.sheets.specs.Memory.{names_table}
use Rattle.sheets.specs.declared.checking.Question.{Question}
use Rattle.wire.specs.Numbers.{Taken, take_number, and_then}
use Rattle.wire.specs.declared.faults.Fault.{Fault}
use Rattle.wire.specs.declared.faults.Fault.TheVariants.{Malformed, OutOfRange, TooManyLines}

abbrev pub take_asked : List ℕ → Taken Head
take_asked s =
    and_then (take_number 2 s) λ house s₁. and_then (take_number 1 s₁) λ right s₂. and_then (take_number 4 s₂) λ lines rest.
    Some (record { house = house; right = right; lines = lines }, rest)

-- a request begins with its kind and its head, and its lines follow; a delivery of another kind has none
abbrev pub take_head : List ℕ → Taken Head
take_head s = and_then (take_number 1 s) λ kind rest. cond (kind == 4) (take_asked rest) None

-- what a head asks for at an owner's gate; no day is in it
abbrev pub asked : ℕ → Head → Access
asked owner head = any_day owner head.right

-- what a request asks at an owner's gate on a day
abbrev pub question_of : ℕ → ℕ → Head → Question
question_of day owner head = record { access = on_day day (asked owner head); house = head.house }

abbrev pub decided : Result (Unit {0}) Fault → Answer
decided (Ok u) = Open
decided (Err fault) = Refused fault

-- the head is looked at before the lines
abbrev pub answer_head : State → Taken Head → Answer
answer_head g None = Refused Malformed
answer_head g (Some p) =
    cond (nat_le p.0.house 1023 && nat_le p.0.right 63)
    (cond (nat_le p.0.lines (length g.certificates * 1024))
    (decided (check_for g.certificates (question_of g.day g.owner p.0) p.0.lines p.1).1)
    (Refused TooManyLines))
    (Refused OutOfRange)

abbrev pub answer : State → List ℕ → Answer
answer g s = answer_head g (take_head s)

-- the most bytes of a request that names these certificates: a head of 8, and as many lines as there may be, each as long as the longest
abbrev pub longest_request : List Certificate → ℕ
longest_request cs = 8 + length cs * 1024 * longest_line cs

-- A front of more bytes than that is answered as the whole is, whatever follows.
abbrev pub AnsweredByFront : State → List ℕ → Answer → Type 0
AnsweredByFront g front answered = longest_request g.certificates < length front → (more : List ℕ) → answered ≡ answer g (front ++ more)

-- what the check of a request leaves in lent memory; it is untouched where no line is looked at
abbrev pub left_by_head : State → List ℕ → Taken Head → List ℕ
left_by_head g memory None = memory
left_by_head g memory (Some p) =
    cond (nat_le p.0.house 1023 && nat_le p.0.right 63)
    (cond (nat_le p.0.lines (length g.certificates * 1024))
    (names_table g.certificates (check_for g.certificates (question_of g.day g.owner p.0) p.0.lines p.1).0 (replicate (length memory) 0))
    memory)
    memory

abbrev pub left_by : State → List ℕ → List ℕ → List ℕ
left_by g s memory = left_by_head g memory (take_head s)

-- the answers of events, behind those that were given before
abbrev pub told : List Answer → Delivered → State × List Answer
told answers d = (d.0, answers ++ map Refused d.1)

abbrev pub onto : List Answer → State × List Answer → State × List Answer
onto answers p = (p.0, answers ++ p.1)

-- A request is answered, and changes nothing; any other delivery holds events.
abbrev pub receive : State → List ℕ → State × List Answer
receive g d = cond (is_request d) (g, answer g d ∷ []) (told [] (deliver g d))

-- what a delivery leaves in lent memory; events leave it as it was
abbrev pub left_by_delivery : State → List ℕ → List ℕ → List ℕ
left_by_delivery g d memory = cond (is_request d) (left_by g d memory) memory

-- some deliveries, one after the other: the gate after them, and all answers in their order
unfoldable pub receive_all : State → List (List ℕ) → State × List Answer
receive_all g [] = (g, [])
receive_all g (d ∷ ds) = let others = receive_all (receive g d).0 ds in (others.0, (receive g d).1 ++ others.1)

-- what they leave in lent memory
unfoldable pub left_by_all : State → List (List ℕ) → List ℕ → List ℕ
left_by_all g [] memory = memory
left_by_all g (d ∷ ds) memory = left_by_all (receive g d).0 ds (left_by_delivery g d memory)

-- a gate after some deliveries
unfoldable pub after : State → List (List ℕ) → State
after g [] = g
after g (d ∷ ds) = after (receive g d).0 ds

-- a gate of the owner after some deliveries
abbrev pub run : ℕ → List (List ℕ) → State
run owner ds = after (fresh_gate owner) ds
