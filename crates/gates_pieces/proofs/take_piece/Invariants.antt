use Rattle.gates_pieces.proofs.PieceByPiece.{SoFar}
use Rattle.gates_pieces.proofs.take_piece.Given as goal
use Rattle.gates.specs.Gates.{state_of}
use Rattle.std.proofs.Common.{◌≡◌, length, vec_items, vec_capacity}

abbrev pub invariant-loop-gate : goal.invariant-loop-gate
invariant-loop-gate l =
    SoFar (state_of l.initial.gate) (vec_items l.initial.answers) l.piece l.last (state_of l.gate) (vec_items l.answers) l.rest
    × (vec_capacity l.answers ≡ vec_capacity l.initial.answers)

abbrev pub decreases-loop-gate : goal.decreases-loop-gate
decreases-loop-gate l = length l.rest
