use Rattle.gates.proofs.Gate.answer.Goals as goal
use Rattle.gates.proofs.Keeping.{answer_kept}
use Rattle.promise.specs.declared.answers.Answer.TheVariants.{Open}
use Rattle.std.proofs.Common.{rules}

pub returns-in-Ok-clause-promised : goal.returns-in-Ok-clause-promised
returns-in-Ok-clause-promised c = answer_kept c.args.self.now c.args.bytes.now Open c.type_inv.bytes (search rules)
