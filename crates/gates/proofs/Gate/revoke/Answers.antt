use Rattle.gates.proofs.Gate.revoke.Goals as goal
use Rattle.registry.proofs.Kept.{revoke_past}
use Rattle.std.proofs.Common.{rules}

pub returns : goal.returns
returns c = search (rules, revoke_past)
