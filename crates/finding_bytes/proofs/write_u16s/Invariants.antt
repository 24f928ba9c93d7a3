use Rattle.std.proofs.Common.{◌≡◌, ◌+◌, ◌*◌, drop}
use Rattle.finding_bytes.proofs.write_u16s.Given as goal
use Rattle.std.specs.List.{flat_map}
use Rattle.wire.specs.Numbers.{bytes}
use lib.Seq.{sets}

abbrev pub invariant-loop-i : goal.invariant-loop-i
invariant-loop-i l = sets l.initial.out l.at (flat_map (bytes 2) l.numbers) ≡ sets l.out (l.at + 2 * l.i) (flat_map (bytes 2) (drop l.i l.numbers))
