use Rattle.gates_deliveries.proofs.InOrder.{Along}
use Rattle.gates_deliveries.proofs.receiving.receive_each.Given as goal
use Rattle.gates_deliveries.specs.Lists.{bytes_of}
use Rattle.gates.specs.Gates.{state_of}
use Rattle.std.proofs.Common.{take, vec_items}

abbrev pub invariant-loop-delivery : goal.invariant-loop-delivery
invariant-loop-delivery l =
    Along (state_of l.initial.gate) l.initial.memory (bytes_of (take l.delivery-index l.deliveries)) (state_of l.gate) (vec_items l.answers) l.memory
