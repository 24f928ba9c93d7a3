use Rattle.registry.specs.Numbered.{certificates_of}
use Rattle.finding_bytes.proofs.Written.{Begun, begun_more, begun_room, begun_all, bytes_left, left_marked, left_unmarked, left_none}
use Rattle.finding_bytes.proofs.write_lines.Goals as goal
use Rattle.finding_bytes.specs.Writing.{bytes_of_marked}
use Rattle.std.proofs.Common.{subst, arith}
use Rattle.sheets.specs.Bytes.{line_bytes}
use Rattle.finding_turns.specs.Found.{line_of, lines_found}

pub write_line-at-requires : goal.write_line-at-requires
write_line-at-requires c =
    let cs = certificates_of c.args.registry.now in
    let more = left_marked cs c.loop-line.line-iterator c.next.new.self c.next.result c.in-Some.line c.in-Some.mark c.in-Some.is c.next.ensures.steps c.if-mark.true in
    omega (
      arith,
      c.requires,
      c.loop-line.auto.out,
      begun_room (bytes_of_marked c.args.marks.now (lines_found cs c.args.found.now)) c.args.out.now c.loop-line.out (bytes_left cs c.loop-line.line-iterator)
          (line_bytes (line_of cs c.in-Some.line.now)) (bytes_left cs c.next.new.self) c.loop-line.at more c.loop-line.invariant,
    )

pub loop-line-preserved-then-mark : goal.loop-line-preserved-then-mark
loop-line-preserved-then-mark c =
    let cs = certificates_of c.args.registry.now in
    let more = left_marked cs c.loop-line.line-iterator c.next.new.self c.next.result c.in-Some.line c.in-Some.mark c.in-Some.is c.next.ensures.steps c.if-mark.true in
    begun_more (bytes_of_marked c.args.marks.now (lines_found cs c.args.found.now)) c.args.out.now c.loop-line.out c.write_line-at.new.out _ _ _
    c.loop-line.at c.write_line-at.result more c.write_line-at.ensures.place c.write_line-at.ensures.after c.loop-line.invariant

pub loop-line-preserved : goal.loop-line-preserved
loop-line-preserved c =
    let cs = certificates_of c.args.registry.now in
    let more = left_unmarked cs c.loop-line.line-iterator c.next.new.self c.next.result c.in-Some.line c.in-Some.mark c.in-Some.is c.next.ensures.steps c.if-mark.false in
    subst (λ left. Begun (bytes_of_marked c.args.marks.now (lines_found cs c.args.found.now)) c.args.out.now c.loop-line.out left c.loop-line.at) more c.loop-line.invariant

pub returns : goal.returns
returns c =
    let cs = certificates_of c.args.registry.now in
    begun_all (bytes_of_marked c.args.marks.now (lines_found cs c.args.found.now)) c.args.out.now c.loop-line.out _ c.loop-line.at
    (left_none cs c.loop-line.line-iterator c.next.new.self c.next.result c.in-None.is c.next.ensures.steps) c.requires c.loop-line.invariant
