-- Numbers as bytes, high byte first. Assumes nothing.
use Rattle.std.specs.Prelude.{ℕ, zero, suc, ◌/◌, ◌%◌, cond, List, [], ◌∷◌, ◌++◌, length, take, drop, replicate, Some, None, Option, nat_le}
use Rattle.std.specs.Option.{option_map}
use Rattle.std.specs.Int.Digits.{number_from_digits}
use Rattle.wire.specs.declared.numbers.Six.{Six}
use Rattle.std.specs.Borrow.{Bor}

-- a number as k bytes
unfoldable pub bytes : ℕ → ℕ → List ℕ
bytes zero n = []
bytes (suc k) n = bytes k (n / 256) ++ (n % 256 ∷ [])

-- What is taken from the front of a list of bytes: a value and what follows it, or nothing.
abbrev pub Taken : Type 0 → Type 0
Taken A = Option (A × List ℕ)

-- the next k bytes as a number
abbrev pub take_number : ℕ → List ℕ → Taken ℕ
take_number k s = cond (nat_le k (length s)) (Some (number_from_digits 256 (take k s), drop k s)) None

-- one part after the other; nothing as soon as one is missing
abbrev pub and_then : {A B : Type 0} → Taken A → (A → List ℕ → Taken B) → Taken B
and_then None next = None
and_then (Some p) next = next p.0 p.1

-- k numbers, of two bytes each
unfoldable pub take_numbers : ℕ → List ℕ → Taken (List ℕ)
take_numbers zero s = Some ([], s)
take_numbers (suc k) s = and_then (take_number 2 s) λ n rest. and_then (take_numbers k rest) λ numbers behind. Some (n ∷ numbers, behind)

-- six places: numbers in front, zeros behind them; a seventh number has no place
abbrev pub places : List ℕ → List ℕ
places numbers = take 6 (numbers ++ replicate 6 0)

abbrev pub keep_six : List ℕ → List ℕ → Taken Six
keep_six numbers rest = Some (record { numbers = places numbers }, rest)

-- a reader's answer, with its part of the slice as a list
abbrev pub split : {A : Type 0} → Option (A × Bor (List ℕ)) → Taken A
split r = option_map (λ p. (p.0, p.1.now)) r

-- the same with the value of what was read
abbrev pub split_by : {A : Type 0} → (A → ℕ) → Option (A × Bor (List ℕ)) → Taken ℕ
split_by value r = option_map (λ p. (value p.0, p.1.now)) r
