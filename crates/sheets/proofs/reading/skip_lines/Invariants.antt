use Rattle.std.proofs.Common.{◌≡◌, ◌-◌}
use Rattle.registry.specs.Numbered.{certificates_of}
use Rattle.sheets.proofs.reading.skip_lines.Given as goal
use Rattle.sheets.specs.Reading.{lines_skipped}

abbrev pub invariant-loop-line : goal.invariant-loop-line
invariant-loop-line l = lines_skipped (certificates_of l.registry) l.count l.bytes ≡ lines_skipped (certificates_of l.registry) (l.count - l._line) l.rest
