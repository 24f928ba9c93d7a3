use Rattle.programs.proofs.taking.take_events.Given as goal
use Rattle.std.proofs.Common.{◌<◌, vec_capacity}

abbrev pub invariant-loop : goal.invariant-loop
invariant-loop g l = 0 < vec_capacity l.answers
