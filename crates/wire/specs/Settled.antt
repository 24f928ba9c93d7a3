-- When some bytes settle which event stands first, whatever follows them. Assumes nothing.
use Rattle.std.specs.Prelude.{◌≡◌, ℕ, Bool, true, ◌||◌, ◌<◌, List, ◌++◌, length, Some, is_some, nat_le}
use Rattle.std.specs.List.{AllByRecursion}
use Rattle.wire.specs.Numbers.{and_then}
use Rattle.wire.specs.Reading.{Reading, event_read}

-- the most bytes that an event can have: a certificate with 255 names
abbrev pub longest_event : ℕ
longest_event = 533

-- it can be read, or it never can: there are as many bytes as the longest event has
abbrev pub settles : List ℕ → Bool
settles s = is_some (event_read s) || nat_le longest_event (length s)

-- what is read where more bytes follow: the same, and they stand behind the rest
abbrev pub followed_by : List ℕ → Reading → Reading
followed_by more r = and_then r λ read rest. Some (read, rest ++ more)

-- What follows bytes that settle it changes nothing of the event that is read.
abbrev pub Settled : Type 0
Settled = (s more : List ℕ) → AllByRecursion (λ b. b < 256) s → AllByRecursion (λ b. b < 256) more → settles s ≡ true →
    event_read (s ++ more) ≡ followed_by more (event_read s)
