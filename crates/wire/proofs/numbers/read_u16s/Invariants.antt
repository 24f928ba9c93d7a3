use Rattle.std.proofs.Common.{◌≡◌}
use Rattle.wire.proofs.Sixes.{from_place}
use Rattle.wire.specs.Numbers.{take_numbers, and_then, keep_six}
use Rattle.wire.proofs.numbers.read_u16s.Given as goal

abbrev pub invariant-loop-place : goal.invariant-loop-place
invariant-loop-place l = from_place l.count l.place l.numbers l.rest ≡ and_then (take_numbers l.count l.bytes) keep_six
