use Rattle.registry.specs.Numbered.{certificates_of}
use Rattle.finding_bytes.proofs.Written.{bytes_left}
use Rattle.finding_bytes.proofs.marked_bytes.Given as goal
use Rattle.finding_bytes.specs.Writing.{bytes_of_marked}
use Rattle.std.proofs.Common.{◌≡◌, ◌+◌, ◌*◌, ◌≤◌, length}
use Rattle.std.specs.Iterator.Adapters.{zip_first}
use Rattle.std.specs.Slice.Iter.{iter_rest}
use Rattle.finding_turns.specs.Found.{lines_found}

-- what is counted, with the bytes of the lines that are left, makes all
abbrev pub invariant-loop-line : goal.invariant-loop-line
invariant-loop-line l =
    let cs = certificates_of l.registry in
    record {
      all : l.bytes + length (bytes_left cs l.line-iterator) ≡ length (bytes_of_marked l.marks (lines_found cs l.found));
      few : l.bytes + 14 * length (iter_rest (zip_first l.line-iterator)) ≤ 14 * length l.found;
    }
