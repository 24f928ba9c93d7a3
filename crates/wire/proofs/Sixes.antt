-- Numbers read one after the other into six places. Assumes nothing.
use Rattle.std.proofs.Common.{◌≡◌, ℕ, zero, suc, ◌+◌, ◌-◌, ◌<◌, ◌≤◌, List, [], ◌∷◌, ◌++◌, length, take, set, replicate, Some, None, sym, refl, ap, ◌∙◌, ⊎_elim, append_assoc, append-nil, arith, length-append}
use Rattle.std.proofs.lemmas.Bool.{cases_lt}
use Rattle.std.proofs.lemmas.List.{length-take, set_past}
use Rattle.wire.specs.Numbers.{Taken, take_number, and_then}
use Rattle.wire.specs.Numbers.{take_numbers, places, keep_six}
use Rattle.wire.specs.declared.numbers.Six.{Six}
use lib.Seq.{take-append-le}

set_in_front : (done tail : List ℕ) (k n : ℕ) → length done < k → set (take k (done ++ (0 ∷ tail))) (length done) n ≡ take k (done ++ (n ∷ tail))
set_in_front [] tail zero n h = let none : ⊥ = omega arith in absurd none
set_in_front [] tail (suc k) n h = refl
set_in_front (d ∷ done) tail zero n h = let none : ⊥ = omega arith in absurd none
set_in_front (d ∷ done) tail (suc k) n h = ap (λ xs. d ∷ xs) (set_in_front done tail k n (omega arith))

-- a number among the first six is written into its place
placed_in : (done : List ℕ) (n : ℕ) → length done < 6 → set (places done) (length done) n ≡ places (done ++ (n ∷ []))
placed_in done n h =
    let front = done ++ (n ∷ replicate 5 0) in
    let long : 6 ≤ length front = simp length-append (omega arith) in
    set_in_front done (replicate 5 0) 6 n h
    ∙ (sym (take-append-le 6 front (0 ∷ []) long)
    ∙ ap (take 6) (append_assoc done (n ∷ replicate 5 0) (0 ∷ []) ∙ sym (append_assoc done (n ∷ []) (replicate 6 0))))

-- a later one has no place
placed_past : (done : List ℕ) (n : ℕ) → 6 ≤ length done → set (places done) (length done) n ≡ places (done ++ (n ∷ []))
placed_past done n h =
    set_past (places done) (length done) n (omega (arith, length-take 6 (done ++ replicate 6 0)))
    ∙ (take-append-le 6 done (replicate 6 0) h
    ∙ (sym (take-append-le 6 done (n ∷ replicate 6 0) h)
    ∙ ap (take 6) (sym (append_assoc done (n ∷ []) (replicate 6 0)))))

-- what is put into its place, if it has one
placed : (done : List ℕ) (n : ℕ) → set (places done) (length done) n ≡ places (done ++ (n ∷ []))
placed done n = ⊎_elim (placed_in done n) (placed_past done n) (cases_lt (length done) 6)

-- the numbers so far, with those that are taken next
with_done : List ℕ → Taken (List ℕ) → Taken Six
with_done done t = and_then t λ numbers rest. keep_six (done ++ numbers) rest

-- what is read from here on: so many more numbers, the first of them for this place of the array
unfoldable pub onward : ℕ → ℕ → List ℕ → List ℕ → Taken Six
onward zero place array s = Some (record { numbers = array }, s)
onward (suc left) place array s =
    and_then (take_number 2 s) λ n rest. onward left (place + 1) (set array place n) rest

onward_done : (left : ℕ) (done s : List ℕ) → onward left (length done) (places done) s ≡ with_done done (take_numbers left s)
unfolding onward take_numbers with_done
onward_done zero done s = rw (append-nil done) refl
onward_done (suc left) done s = next (onward_done left) (take_number 2 s)
  where
    taken : (n : ℕ) (t : Taken (List ℕ)) →
        with_done (done ++ (n ∷ [])) t ≡ with_done done (and_then t λ numbers after. Some (n ∷ numbers, after))
    taken n None = refl
    taken n (Some p) = rw (append_assoc done (n ∷ []) p.0) refl

    next : ((done s : List ℕ) → onward left (length done) (places done) s ≡ with_done done (take_numbers left s)) → (t : Taken ℕ) →
        (and_then t λ n rest. onward left (length done + 1) (set (places done) (length done) n) rest)
        ≡ with_done done (and_then t λ n rest. and_then (take_numbers left rest) λ numbers behind. Some (n ∷ numbers, behind))
    next others None = refl
    next others (Some p) =
        let long : length done + 1 ≡ length (done ++ (p.0 ∷ [])) = simp length-append (omega arith) in
        rw (long, placed done p.0) (others (done ++ (p.0 ∷ [])) p.1 ∙ taken p.0 (take_numbers left p.1))

-- the same before a place, with as many numbers left as there are in all behind it
unfoldable pub from_place : ℕ → ℕ → List ℕ → List ℕ → Taken Six
from_place count place array s = onward (count - place) place array s

-- at the first place nothing is in the array yet
pub start : (count : ℕ) (s : List ℕ) → from_place count 0 (replicate 6 0) s ≡ and_then (take_numbers count s) keep_six
unfolding from_place with_done
start count s = let all : count - 0 ≡ count = omega arith in rw all (onward_done count [] s)

-- past the last number the array is what was read
pub at_end : (count place : ℕ) (array s : List ℕ) → count ≤ place → from_place count place array s ≡ Some (record { numbers = array }, s)
unfolding from_place onward
at_end count place array s all = let none_left : count - place ≡ 0 = omega arith in rw none_left refl

-- where the bytes end too early nothing is read
pub cut_short : (count place : ℕ) (array s : List ℕ) → place < count → None ≡ take_number 2 s → from_place count place array s ≡ None
unfolding from_place onward
cut_short count place array s more short =
    let left : count - place ≡ suc (count - place - 1) = omega arith in rw (left, sym short) refl

-- one number more, put into its place if it has one
pub one_more : (count place : ℕ) (array s : List ℕ) → place < count →
    from_place count place array s ≡ and_then (take_number 2 s) λ n rest. from_place count (place + 1) (set array place n) rest
unfolding from_place onward
one_more count place array s more =
    let left : count - place ≡ suc (count - (place + 1)) = omega arith in rw left refl

-- the loop that reads them
pub ruleset each_number = (start, at_end, cut_short, one_more)
