use Rattle.registry.specs.Numbered.{certificates_of}
use Rattle.finding_bytes.proofs.Written.{bytes_left, left_marked, left_unmarked, left_fewer, left_none}
use Rattle.finding_bytes.proofs.marked_bytes.Goals as goal
use Rattle.sheets.specs.Bytes.{line_bytes}
use Rattle.std.proofs.Common.{length, ap, arith}
use Rattle.std.proofs.lemmas.List.{length-append}
use Rattle.finding_turns.specs.Found.{line_of}

pub loop-line-preserved-then-mark : goal.loop-line-preserved-then-mark
loop-line-preserved-then-mark c =
    let cs = certificates_of c.args.registry.now in
    let more = left_marked cs c.loop-line.line-iterator c.next.new.self c.next.result c.in-Some.line c.in-Some.mark c.in-Some.is c.next.ensures.steps c.if-mark.true in
    record {
      all = omega (
        arith,
        c.loop-line.invariant.all,
        ap length more,
        length-append (line_bytes (line_of cs c.in-Some.line.now)) (bytes_left cs c.next.new.self),
        c.bytes_of_line-bytes.ensures.value,
      );
      few = omega (
        arith,
        c.loop-line.invariant.few,
        c.bytes_of_line-bytes.ensures.few,
        left_fewer cs c.loop-line.line-iterator c.next.new.self c.next.result c.in-Some.line c.in-Some.mark c.in-Some.is c.next.ensures.steps,
      );
    }

pub loop-line-preserved : goal.loop-line-preserved
loop-line-preserved c =
    let cs = certificates_of c.args.registry.now in
    let more = left_unmarked cs c.loop-line.line-iterator c.next.new.self c.next.result c.in-Some.line c.in-Some.mark c.in-Some.is c.next.ensures.steps c.if-mark.false in
    record {
      all = omega (arith, c.loop-line.invariant.all, ap length more);
      few = omega (
        arith,
        c.loop-line.invariant.few,
        left_fewer cs c.loop-line.line-iterator c.next.new.self c.next.result c.in-Some.line c.in-Some.mark c.in-Some.is c.next.ensures.steps,
      );
    }

pub returns-clause-value : goal.returns-clause-value
returns-clause-value c =
    omega (
      arith,
      c.loop-line.invariant.all,
      ap length (left_none (certificates_of c.args.registry.now) c.loop-line.line-iterator c.next.new.self c.next.result c.in-None.is c.next.ensures.steps),
    )
