use Rattle.std.specs.List.{flat_map}
use Rattle.std.proofs.Common.{◌≡◌, ◌++◌, take, vec_items}
use Rattle.writing.proofs.push_names.Given as goal
use Rattle.wire.specs.Numbers.{bytes}

abbrev pub invariant-loop-name : goal.invariant-loop-name
invariant-loop-name l = vec_items l.out ≡ vec_items l.initial.out ++ flat_map (bytes 2) (take l.name-index l.names)
