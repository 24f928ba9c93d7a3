use Rattle.std.proofs.Common.{rules}
use Rattle.registry.specs.Numbered.{certificates_of}
use Rattle.sheets.proofs.SheetPassing.{faulty_sheet, concluded_sheet}
use Rattle.sheets.proofs.checking.Checker.check_wiped.Goals as goal
use Rattle.std.proofs.lemmas.Result.{err_from_is_err_and}

pub returns-in_err-rest : goal.returns-in_err-rest
returns-in_err-rest c =
    let p = err_from_is_err_and c.from_residual.result c.from_residual.ensures.1 in
    rw (p.1, p.2)
    (faulty_sheet (certificates_of c.args.self.now.registry.now) c.args.self.now.question.now (search rules) c.requires.asked c.args.count c.args.lines.now
    c.args.memory.now c.check_lines.new.names c.show.new.words c.check_lines.new.rights c.requires.wiped c.show.ensures.value _ c.in_err-rest.ensures)

pub returns : goal.returns
returns c =
    concluded_sheet (certificates_of c.args.self.now.registry.now) c.args.self.now.question.now (search rules) c.requires.asked c.args.count c.args.lines.now
    c.args.memory.now c.check_lines.new.names c.show.new.words c.check_lines.new.rights c.requires.wiped c.show.ensures.value
    c.in_ok-rest.rest.now c.conclude.result c.in_ok-rest.ensures c.conclude.ensures
