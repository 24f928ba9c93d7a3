use Rattle.std.proofs.Common.{arith}
use Rattle.finding.specs.Growing.{bare_head}
use Rattle.gates.specs.Gates.{state_of}
use Rattle.inquiries.proofs.Kept.{sheet_kept}
use Rattle.inquiries.proofs.sheet.sheet_for.Goals as goal

pub returns-clause-kept : goal.returns-clause-kept
returns-clause-kept c =
    let g = state_of c.args.gate.now in
    sheet_kept g (omega (arith, c.args.gate.now.known)) (bare_head c.args.request.now) _ _ _ _ c.find_sheet.result
    (rw (c.registry.ensures, c.day.ensures, c.owner.ensures.value) at c.find_sheet.ensures)
