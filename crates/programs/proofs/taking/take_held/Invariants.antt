use Rattle.gates.specs.Gates.{state_of}
use Rattle.programs.proofs.Held.{Along}
use Rattle.programs.proofs.taking.take_held.Given as goal
use Rattle.std.proofs.Common.{◌≡◌, length, vec_capacity}

abbrev pub invariant-loop-gate : goal.invariant-loop-gate
invariant-loop-gate g l =
    Along (state_of l.initial.gate) l.delivery.bytes.items l.last (state_of l.gate) l.bytes
    × (vec_capacity l.answers ≡ vec_capacity l.initial.answers)

abbrev pub decreases-loop-gate : goal.decreases-loop-gate
decreases-loop-gate g l = length l.bytes
