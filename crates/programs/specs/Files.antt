-- What a file leaves behind the bytes that were there, and which of them are held. Assumes nothing.
use Rattle.std.specs.Prelude.{◌≡◌, ℕ, ◌+◌, ◌-◌, ◌≤◌, Bool, List, ◌++◌, drop, length, Ok, Err, Result, max, nat_lt}

-- some bytes came, no more than a piece
abbrev pub Came : List ℕ → List ℕ → Bool → Type 0
Came old new more = (came : List ℕ) × (new ≡ old ++ came) × (length came ≤ 16384) × (more ≡ nat_lt 0 (length came))

-- what came stands behind the old bytes, and it is told whether anything did; a failure changes nothing
abbrev pub ReadOn : {E : Type 0} → List ℕ → List ℕ → Result Bool E → Type 0
ReadOn old new (Ok more) = Came old new more
ReadOn old new (Err e) = new ≡ old

-- some bytes came, no more than a piece beyond those that are wanted; so it is after a failure too
abbrev pub ReadPast : List ℕ → List ℕ → ℕ → Type 0
ReadPast old new longest = (came : List ℕ) × (new ≡ old ++ came) × (length new ≤ max (length old) (longest + 16384))

-- the last bytes, so many, or all where there are fewer
abbrev pub last_bytes : ℕ → List ℕ → List ℕ
last_bytes count s = drop (length s - count) s
