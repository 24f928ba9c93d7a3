use Rattle.std.proofs.Common.{◌≡◌, ℕ, cond, ltb, slice_index, vec_len}
use Rattle.registry.proofs.entries.add_one.Given as goal
use Rattle.registry.specs.Index.{one_more}

abbrev pub invariant-loop-place : goal.invariant-loop-place
invariant-loop-place l =
    (vec_len l.numbers ≡ vec_len l.initial.numbers)
    × ((i : ℕ) → slice_index l.numbers.items i ≡ cond (ltb i l.place) (one_more l.from l.to i (slice_index l.initial.numbers.items i)) (slice_index l.initial.numbers.items i))
