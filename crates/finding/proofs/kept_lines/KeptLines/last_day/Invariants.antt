use Rattle.std.proofs.Common.{◌≡◌, ◌≤◌, min}
use Rattle.finding.proofs.Later.{last_left}
use Rattle.finding.proofs.kept_lines.KeptLines.last_day.Given as goal
use Rattle.finding.specs.Asking.{lines_of_kept}
use Rattle.finding.specs.Worth.{last_day}
use Rattle.registry.specs.Numbered.{certificates_of}
use Rattle.std.specs.Iterator.Adapters.{zip_first, zip_second}
use Rattle.std.specs.Slice.Iter.{iter_rest}

-- the sooner of the last day so far and that of the lines that are left is the last day of all
abbrev pub invariant-loop-line : goal.invariant-loop-line
invariant-loop-line l =
    let cs = certificates_of l.registry in
    record {
      same : min l.last (last_left cs (iter_rest (zip_second l.line-iterator)) (iter_rest (zip_first l.line-iterator))) ≡ last_day cs (lines_of_kept cs l.self);
      most : l.last ≤ 4294967295;
    }
