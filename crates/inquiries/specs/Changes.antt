-- On which day it can change next whether a house may. Assumes nothing.
-- Where it may, it does so as long as the sheet holds that was found; where it may not, only a certificate that begins to be valid can give it that.
-- So of a certificate this much counts: that one that is not valid stays so.
use Rattle.std.specs.Prelude.{◌≡◌, ℕ, ◌+◌, ◌^◌, ◌<◌, ◌≤◌, true, false, min, cond, List, length, Some, None, Option, nat_lt}
use Rattle.certificates.specs.Certificates.{valid}
use Rattle.certificates.specs.declared.Certificate.{Certificate}
use Rattle.registry.specs.Numbered.{certificate_at}
use Rattle.std.specs.List.{filter_map, reduce}

-- a certificate that is not valid on `day` is so on none of the days before `until`
abbrev pub Waits : ℕ → ℕ → Certificate → Type 0
Waits day until c = valid day c ≡ false → (other : ℕ) → day ≤ other → other < until → valid other c ≡ false

-- the certificate is not valid on `day`, and is so on `next`
abbrev pub Begins : ℕ → ℕ → Certificate → Type 0
Begins day next c = (valid day c ≡ false) × (valid next c ≡ true)

-- a day, if there is one of that number: days end before 2 ^ 32
abbrev pub a_day : ℕ → Option ℕ
a_day n = cond (nat_lt n (2 ^ 32)) (Some n) None

-- the next day on which a certificate begins to be valid; none where it never does
abbrev pub begin_of : ℕ → Certificate → Option ℕ
begin_of day c = cond (nat_lt c.last c.first) None (cond (nat_lt day c.first) (a_day c.first) None)

-- until the next day a certificate waits, and on it begins; where there is none it waits for good
abbrev pub BeginOf : ℕ → Option ℕ → Certificate → Type 0
BeginOf day None c = Waits day (2 ^ 32) c
BeginOf day (Some next) c = (day < next) × (next < 2 ^ 32) × Waits day next c × Begins day next c

-- the soonest of these days
abbrev pub begin_among : ℕ → List Certificate → Option ℕ
begin_among day cs = reduce min (filter_map (begin_of day) cs)

-- the next day on which it can change whether the house may; days end before 2 ^ 32
abbrev pub until : Option ℕ → ℕ
until None = 2 ^ 32
until (Some next) = next

-- some certificate begins on that day
abbrev pub BeginsOn : ℕ → Option ℕ → List Certificate → Type 0
BeginsOn day None cs = Unit {0}
BeginsOn day (Some next) cs = (next < 2 ^ 32) × ((i : ℕ) × (i < length cs) × Begins day next (certificate_at cs i))

-- the next day by the first n certificates: until then each of them waits
pub record NextAmong (day : ℕ) (next : Option ℕ) (cs : List Certificate) (n : ℕ) : Type 0 where
  pub later : day < until next
  pub fits : until next ≤ 2 ^ 32
  pub all_wait : (i : ℕ) → i < n → Waits day (until next) (certificate_at cs i)
  pub begins : BeginsOn day next cs

abbrev pub NextBegin : ℕ → Option ℕ → List Certificate → Type 0
NextBegin day next cs = NextAmong day next cs (length cs)

-- where the house may to a last day, the day behind it; where it may not, the next on which a certificate begins
abbrev pub NextChange : ℕ → Option ℕ → Option ℕ → List Certificate → Type 0
NextChange day None next cs = NextBegin day next cs
NextChange day (Some last) next cs = next ≡ a_day (last + 1)
