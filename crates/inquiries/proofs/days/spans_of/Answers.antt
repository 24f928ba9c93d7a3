use Rattle.inquiries.proofs.Stretches.{begins, goes_along, all_along, unasked_left}
use Rattle.inquiries.proofs.days.spans_of.Goals as goal
use Rattle.inquiries.specs.Spans.{SpansOf}
use Rattle.inquiries.specs.Days.{MayOn}
use Rattle.inquiries.specs.declared.spans.Span.{Span}
use Rattle.registry.specs.Numbered.{certificates_of}
use Rattle.std.proofs.Common.{rules, Fits, w32, ℕ, List, Option, sym, refl, subst}

pub loop-next-init : goal.loop-next-init
loop-next-init c = begins (certificates_of c.args.registry.now) c.args.question.now c.args.names.now c.args.name_lines.now c.new-spans.result c.new-spans.ensures

pub returns-in_err-may_to-clause-left : goal.returns-in_err-may_to-clause-left
returns-in_err-may_to-clause-left c =
    unasked_left (certificates_of c.args.registry.now) c.args.question.now c.args.names.now c.args.name_lines.now c.in-Some.day c.loop-next.spans
    c.loop-next.names c.loop-next.name_lines (rw c.in-Some.is at c.loop-next.invariant) c.in_err-may_to.field-0.0 _ _ c.ask_on.new.spans c.in_err-may_to.ensures

pub loop-next-preserved : goal.loop-next-preserved
loop-next-preserved c =
    let day : Fits w32 c.in-Some.day = search rules in
    goes_along (certificates_of c.args.registry.now) c.args.question.now c.args.names.now c.args.name_lines.now c.in-Some.day c.loop-next.spans
    c.loop-next.names c.loop-next.name_lines (rw c.in-Some.is at c.loop-next.invariant) day.fits c.next_change-next.result c.in_ok-may_to.may_to c.next_change-next.ensures _ _ c.ask_on.new.spans c.in_ok-may_to.ensures

pub returns-clause-told : goal.returns-clause-told
returns-clause-told c =
    let told = all_along (certificates_of c.args.registry.now) c.args.question.now c.args.names.now c.args.name_lines.now c.loop-next.names c.loop-next.name_lines c.loop-next.spans
    (rw c.in_default.is at c.loop-next.invariant) 4294967295 refl in
    subst (λ (p : List Span × Option ℕ). SpansOf (MayOn (certificates_of c.args.registry.now) c.args.question.now) p.0) (sym c.in_ok-end.ensures) told
