use Rattle.programs.proofs.Held.{more_taken, few_left}
use Rattle.programs.proofs.taking.take_held.Goals as goal
use Rattle.std.proofs.Common.{vec_items, ◌∙◌}

pub loop-gate-preserved : goal.loop-gate-preserved
loop-gate-preserved g c = (
  more_taken _ _ _ _ _ _ _ _ _ _ c.in-Some.is c.loop-gate.invariant.0 c.take_piece-next.ensures.taken c.take_piece-next.ensures.behind,
  c.take_piece-next.ensures.room ∙ (c.clear.ensures.capacity ∙ c.loop-gate.invariant.1),
)

pub returns-then-is_empty-clause-taken : goal.returns-then-is_empty-clause-taken
returns-then-is_empty-clause-taken g c =
    few_left _ _ _ _ _ _ (vec_items c.clear.new.self) (vec_items c.take_piece-next.new.answers) _ _ c.in-Some.is c.loop-gate.invariant.0
    c.take_piece-next.ensures.taken c.take_piece-next.ensures.behind
