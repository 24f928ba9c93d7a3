use Rattle.registry.specs.Numbered.{certificates_of}
use Rattle.finding_bytes.proofs.Written.{Begun, bytes_left}
use Rattle.finding_bytes.proofs.write_lines.Given as goal
use Rattle.finding_bytes.specs.Writing.{bytes_of_marked}
use Rattle.finding_turns.specs.Found.{lines_found}

abbrev pub invariant-loop-line : goal.invariant-loop-line
invariant-loop-line l =
    let cs = certificates_of l.registry in
    Begun (bytes_of_marked l.marks (lines_found cs l.found)) l.initial.out l.out (bytes_left cs l.line-iterator) l.at
