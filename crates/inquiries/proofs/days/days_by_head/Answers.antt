use Rattle.gates.specs.Gates.{state_of}
use Rattle.inquiries.proofs.DaysKept.{days_kept}
use Rattle.inquiries.proofs.days.days_by_head.Goals as goal
use Rattle.std.proofs.Common.{Ok}

pub returns-clause-kept : goal.returns-clause-kept
returns-clause-kept c =
    rw (← c.in_ok-bare_head.ensures.value)
    (days_kept (state_of c.args.gate.now) (Ok c.in_ok-bare_head.field-0) c.args.names.now c.args.name_lines.now c.spans_of.result
    (rw (c.question-question.ensures, c.registry.ensures, c.day.ensures, c.owner.ensures.value) at c.spans_of.ensures.told))
