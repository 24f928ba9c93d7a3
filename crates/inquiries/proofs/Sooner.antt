-- The next day on which some certificate begins, and one certificate more. Assumes nothing.
use Rattle.std.proofs.Common.{◌≡◌, ℕ, zero, suc, ◌^◌, ◌<◌, ◌≤◌, min, List, [], ◌∷◌, length, Some, None, Option, ◌⊎◌, inl, inr, refl, ap, subst, arith}
use Rattle.std.proofs.lemmas.Bool.{cases_lt, lt-ltb, le-ltb}
use Rattle.std.proofs.lemmas.Bool.Decides.{nat_tests}
use Rattle.certificates.specs.declared.Certificate.{Certificate}
use Rattle.inquiries.specs.Changes.{Waits, Begins, a_day, begin_of, BeginOf, begin_among, until, BeginsOn, NextBegin}
use Rattle.registry.specs.Numbered.{certificate_at}
use Rattle.std.specs.List.{cons_option, fold, reduce}

-- the certificate begins on that day
abbrev Begun : ℕ → Option ℕ → Certificate → Type 0
Begun day None c = Unit {0}
Begun day (Some next) c = (next < 2 ^ 32) × Begins day next c

-- what is known of one certificate's next day
record Next (day : ℕ) (next : Option ℕ) (c : Certificate) : Type 0 where
  later : day < until next
  fits : until next ≤ 2 ^ 32
  waits : Waits day (until next) c
  begun : Begun day next c

waits_less : (day u v : ℕ) (c : Certificate) → v ≤ u → Waits day u c → Waits day v c
waits_less day u v c less waits now other from below = waits now other from (omega arith)

module _ (day : ℕ) (small : day < 2 ^ 32) where
  -- it begins on a day, or days end before
  begins_at : (n : ℕ) (c : Certificate) → day < n → Waits day n c → Begins day n c → Next day (a_day n) c
  begins_at n c later waits begins = elim (cases_lt n (2 ^ 32)) [
    | inl less ↦ rw (lt-ltb n (2 ^ 32) less) (record { later = later; fits = omega arith; waits = waits; begun = (less, begins) })
    | inr past ↦ rw (le-ltb n (2 ^ 32) past) (record { later = small; fits = omega arith; waits = waits_less day n (2 ^ 32) c past waits; begun = tt })
  ]

  waits_so : (c : Certificate) → Waits day (2 ^ 32) c → Next day None c
  waits_so c waits = record { later = small; fits = omega arith; waits = waits; begun = tt }

  -- the certificate begins later, or adds nothing
  next_is : (c : Certificate) → Next day (begin_of day c) c
  next_is c = elim (cases_lt c.last c.first) [
    | inl never ↦ rw (lt-ltb c.last c.first never) (waits_so c (λ now other from below. grind (arith, nat_tests)))
    | inr some ↦ rw (le-ltb c.last c.first some) (elim (cases_lt day c.first) [
      | inl before ↦ rw (lt-ltb day c.first before) (begins_at c.first c before (λ now other from below. grind (arith, nat_tests)) (grind (arith, nat_tests), grind (arith, nat_tests)))
      | inr begun ↦ rw (le-ltb day c.first begun) (waits_so c (λ now other from below. grind (arith, nat_tests)))
    ])
  ]

as_told : (day : ℕ) (next : Option ℕ) (c : Certificate) → Next day next c → BeginOf day next c
as_told day None c is = is.waits
as_told day (Some next) c is = (is.later, is.begun.0, is.waits, is.begun.1)

-- what is said of the next day is so
pub begin_told : (day : ℕ) (c : Certificate) → day < 2 ^ 32 → BeginOf day (begin_of day c) c
begin_told day c small = as_told day (begin_of day c) c (next_is day small c)

-- the sooner of two days that there may be
abbrev sooner : Option ℕ → Option ℕ → Option ℕ
sooner None b = b
sooner (Some a) None = Some a
sooner (Some a) (Some b) = Some (min a b)

fold_min : (a b : ℕ) (ns : List ℕ) → fold min (min a b) ns ≡ min a (fold min b ns)
fold_min a b [] = refl
fold_min a b (n ∷ ns) = let again : min (min a b) n ≡ min a (min b n) = omega arith in rw again (fold_min a (min b n) ns)

least_more : (a : Option ℕ) (ns : List ℕ) → reduce min (cons_option a ns) ≡ sooner a (reduce min ns)
least_more None ns = refl
least_more (Some a) [] = refl
least_more (Some a) (n ∷ ns) = ap Some (fold_min a n ns)

until_sooner : (a b : Option ℕ) → (until a ≤ 2 ^ 32) → (until b ≤ 2 ^ 32) → (until (sooner a b) ≤ until a) × (until (sooner a b) ≤ until b)
until_sooner None None fa fb = (omega arith, omega arith)
until_sooner None (Some b) fa fb = (omega arith, omega arith)
until_sooner (Some a) None fa fb = (omega arith, omega arith)
until_sooner (Some a) (Some b) fa fb = (omega arith, omega arith)

-- both lie behind the day, and one of them is taken
later_sooner : (day : ℕ) (a b : Option ℕ) → day < until a → day < until b → day < until (sooner a b)
later_sooner day None None la lb = la
later_sooner day None (Some b) la lb = lb
later_sooner day (Some a) None la lb = la
later_sooner day (Some a) (Some b) la lb = omega arith

module _ (day : ℕ) (c : Certificate) (cs : List Certificate) where
  begins_here : (a : Option ℕ) → Begun day a c → BeginsOn day a (c ∷ cs)
  begins_here None begun = tt
  begins_here (Some a) (less, begun) = (less, (0, omega arith, begun))

  begins_behind : (b : Option ℕ) → BeginsOn day b cs → BeginsOn day b (c ∷ cs)
  begins_behind None begins = tt
  begins_behind (Some b) (less, (i, few, begun)) = (less, (suc i, omega arith, begun))

  begins_sooner : (a b : Option ℕ) → BeginsOn day a (c ∷ cs) → BeginsOn day b (c ∷ cs) → BeginsOn day (sooner a b) (c ∷ cs)
  begins_sooner None b ta tb = tb
  begins_sooner (Some a) None ta tb = ta
  begins_sooner (Some a) (Some b) ta tb = either (cases_lt a b)
    where
      either : (a < b) ⊎ (b ≤ a) → BeginsOn day (Some (min a b)) (c ∷ cs)
      either (inl less) = let e : a ≡ min a b = omega arith in subst (λ n. BeginsOn day (Some n) (c ∷ cs)) e ta
      either (inr more) = let e : b ≡ min a b = omega arith in subst (λ n. BeginsOn day (Some n) (c ∷ cs)) e tb

  one_more : (a b : Option ℕ) → Next day a c → NextBegin day b cs → NextBegin day (sooner a b) (c ∷ cs)
  one_more a b one others =
      let less = until_sooner a b one.fits others.fits in
      record {
        later = later_sooner day a b one.later others.later;
        fits = omega arith;
        all_wait = wait;
        begins = begins_sooner a b (begins_here a one.begun) (begins_behind b others.begins);
      }
    where
      wait : (i : ℕ) → i < suc (length cs) → Waits day (until (sooner a b)) (certificate_at (c ∷ cs) i)
      wait zero few = waits_less day (until a) (until (sooner a b)) c (until_sooner a b one.fits others.fits).0 one.waits
      wait (suc i) few = waits_less day (until b) (until (sooner a b)) (certificate_at cs i) (until_sooner a b one.fits others.fits).1 (others.all_wait i (omega arith))

-- the soonest of all is the next one
pub next_begin : (day : ℕ) (cs : List Certificate) → day < 2 ^ 32 → NextBegin day (begin_among day cs) cs
next_begin day [] small = record { later = small; fits = omega arith; all_wait = λ i none. absurd (omega arith); begins = tt }
next_begin day (c ∷ cs) small =
    rw least_more (one_more day c cs (begin_of day c) (begin_among day cs) (next_is day small c) (next_begin day cs small))
