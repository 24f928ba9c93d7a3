use Rattle.std.proofs.Common.{◌-◌, ◌^◌}
use Rattle.inquiries.proofs.Stretches.{Along}
use Rattle.inquiries.proofs.days.spans_of.Given as goal
use Rattle.inquiries.specs.Changes.{until}
use Rattle.registry.specs.Numbered.{certificates_of}

abbrev pub invariant-loop-next : goal.invariant-loop-next
invariant-loop-next l = Along (certificates_of l.registry) l.question l.fn.names l.fn.name_lines l.next l.spans l.names l.name_lines

abbrev pub decreases-loop-next : goal.decreases-loop-next
decreases-loop-next l = 2 ^ 32 - until l.next
