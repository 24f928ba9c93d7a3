-- Sets of rights as 64-bit numbers. Assumes nothing.
use Rattle.std.specs.Prelude.{◌≡◌, ℕ, ◌/◌, ◌%◌, ◌^◌, Bool, ◌==◌}

-- right r is in the set if bit r of the number is 1
abbrev pub Member : ℕ → ℕ → Type 0
Member r set = set / 2 ^ r % 2 ≡ 1

-- the test for it
abbrev pub member : ℕ → ℕ → Bool
member r set = (set / 2 ^ r % 2) == 1
