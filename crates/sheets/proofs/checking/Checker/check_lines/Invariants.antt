use Rattle.registry.specs.Numbered.{certificates_of}
use Rattle.sheets.proofs.LinesPassing.{SoFar}
use Rattle.sheets.proofs.checking.Checker.check_lines.Given as goal

abbrev pub invariant-loop-number : goal.invariant-loop-number
invariant-loop-number l =
    SoFar (certificates_of l.self.registry.now) l.self.question.now l.count l.lines l.initial.names l.initial.rights l.number l.rest l.names l.rights
