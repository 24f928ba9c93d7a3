use Rattle.finding.proofs.Later.{last_ended}
use Rattle.finding.proofs.kept_lines.KeptLines.last_day.Goals as goal
use Rattle.registry.specs.Numbered.{certificates_of}

pub returns : goal.returns
returns c =
    last_ended (certificates_of c.args.registry.now) c.loop-line.last _ c.loop-line.line-iterator c.next.new.self c.next.result c.in-None.is c.next.ensures.steps
    c.loop-line.invariant.most c.loop-line.invariant.same
