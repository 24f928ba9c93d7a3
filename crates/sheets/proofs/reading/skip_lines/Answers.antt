use Rattle.registry.specs.Numbered.{certificates_of}
use Rattle.sheets.proofs.LinesSkipped.{one_skipped, none_skipped, all_skipped}
use Rattle.sheets.proofs.reading.skip_lines.Goals as goal
use Rattle.std.proofs.Common.{arith}

pub returns-in_default : goal.returns-in_default
returns-in_default c =
    none_skipped (certificates_of c.args.registry.now) c.args.count c.loop-line._line c.args.bytes.now c.loop-line.rest.now c.loop-line.invariant
    (omega arith) c.in_default.ensures

pub loop-line-preserved : goal.loop-line-preserved
loop-line-preserved c =
    one_skipped (certificates_of c.args.registry.now) c.args.count c.loop-line._line c.args.bytes.now c.loop-line.rest.now c.loop-line.invariant
    c.in-Some.behind.now (omega arith) c.in-Some.ensures

pub returns : goal.returns
returns c =
    all_skipped (certificates_of c.args.registry.now) c.args.count c.loop-line._line c.args.bytes.now c.loop-line.rest.now c.loop-line.invariant
    (omega arith)
