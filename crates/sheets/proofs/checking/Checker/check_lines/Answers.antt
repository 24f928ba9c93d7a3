use Rattle.registry.specs.Numbered.{certificates_of}
use Rattle.sheets.proofs.LinesPassing.{one_checked, fault_found, all_checked}
use Rattle.sheets.proofs.checking.Checker.check_lines.Goals as goal
use Rattle.std.proofs.lemmas.Result.{err_from_is_err_and}
use Rattle.std.proofs.Common.{arith}

pub returns-in_err-rest : goal.returns-in_err-rest
returns-in_err-rest c =
    let p = err_from_is_err_and c.from_residual.result c.from_residual.ensures.1 in
    rw (p.1, p.2)
    (fault_found (certificates_of c.args.self.now.registry.now) c.args.self.now.question.now c.args.count c.args.lines.now c.args.names.now c.args.rights.now
    c.loop-number.number c.loop-number.rest.now c.loop-number.names c.loop-number.rights c.loop-number.invariant (omega arith)
    c.check_line.new.names c.check_line.new.rights _ c.in_err-rest.ensures)

pub loop-number-preserved : goal.loop-number-preserved
loop-number-preserved c =
    one_checked (certificates_of c.args.self.now.registry.now) c.args.self.now.question.now c.args.count c.args.lines.now c.args.names.now c.args.rights.now
    c.loop-number.number c.loop-number.rest.now c.loop-number.names c.loop-number.rights c.loop-number.invariant (omega arith)
    c.in_ok-rest.rest.now c.check_line.new.names c.check_line.new.rights c.in_ok-rest.ensures

pub returns : goal.returns
returns c =
    all_checked (certificates_of c.args.self.now.registry.now) c.args.self.now.question.now c.args.count c.args.lines.now c.args.names.now c.args.rights.now
    c.loop-number.number c.loop-number.rest.now c.loop-number.names c.loop-number.rights c.loop-number.invariant (omega arith)
