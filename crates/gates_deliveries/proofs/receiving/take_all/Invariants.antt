use Rattle.gates_deliveries.proofs.Deliveries.{SoFar}
use Rattle.gates_deliveries.proofs.receiving.take_all.Given as goal
use Rattle.gates.specs.Gates.{state_of}
use Rattle.std.proofs.Common.{length, vec_items}

abbrev pub invariant-loop-rest : goal.invariant-loop-rest
invariant-loop-rest l = SoFar (state_of l.initial.gate) (vec_items l.initial.answers) l.bytes (state_of l.gate) (vec_items l.answers) l.rest

abbrev pub decreases-loop-rest : goal.decreases-loop-rest
decreases-loop-rest l = length l.rest
