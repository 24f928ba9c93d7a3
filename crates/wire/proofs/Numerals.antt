-- Readers of numbers and of lists of numbers are exact. Assumes nothing.
use Rattle.std.proofs.Common.{◌≡◌, ℕ, zero, suc, ◌/◌, ◌^◌, ◌<◌, ◌≤◌, Bool, true, false, cond, leb, List, [], ◌∷◌, ◌++◌, length, get_or, take, drop, Some, None, sym, refl, ap, inl, inr, mod-eq_of_lt, arith, length-append}
use Rattle.std.proofs.lemmas.Int.Digits.{number_lt}
use Rattle.std.proofs.ByRecursion.{All-get_or, All-take}
use Rattle.std.proofs.lemmas.List.{take-append-drop, take_at, drop_at, get_or_past, length-take-le}
use Rattle.std.proofs.lemmas.Bool.{cases_lt, le-leb, leb-true}
use Rattle.std.specs.List.{flat_map, AllByRecursion}
use Rattle.std.specs.Int.Digits.{number_from_digits, AllBelowBase}
use Rattle.wire.proofs.BigEndian.{number_bytes, bytes_number}
use Rattle.wire.proofs.Parts.{impossible, Part, both, turned, told_by}
use Rattle.wire.specs.Numbers.{bytes, take_number, take_numbers}

pub length_bytes : (k n : ℕ) → length (bytes k n) ≡ k
unfolding bytes
length_bytes zero n = refl
length_bytes (suc k) n = simp length-append (omega (arith, length_bytes k (n / 256)))

under_get_d : (s : List ℕ) → AllBelowBase 256 s → (i : ℕ) → get_or s i 0 < 256
under_get_d s u i = elim (cases_lt i (length s)) [
  | inl below ↦ All-get_or (λ b. b < 256) s i 0 below u
  | inr past ↦ rw (get_or_past s i 0 past) (omega arith)
]

-- where a number was taken, there were as many bytes, and it is theirs
taken_number : (k : ℕ) (s : List ℕ) (p : ℕ × List ℕ) → take_number k s ≡ Some p →
    (k ≤ length s) × (p ≡ (number_from_digits 256 (take k s), drop k s))
taken_number k s p e = go (leb k (length s)) refl e
  where
    go : (b : Bool) → leb k (length s) ≡ b → cond b (Some (number_from_digits 256 (take k s), drop k s)) None ≡ Some p →
        (k ≤ length s) × (p ≡ (number_from_digits 256 (take k s), drop k s))
    go true is e = (leb-true k (length s) is, cc)
    go false is e = impossible (cc)

pub number_part : (k : ℕ) → Part (take_number k) (λ n. n) (bytes k) (λ n. n < 256 ^ k)
number_part k = record {
  sound = λ s u n rest e.
      let (enough, is) = taken_number k s (n, rest) e in
      let is_number : n ≡ number_from_digits 256 (take k s) = ap (λ p. p.0) is in
      let is_rest : rest ≡ drop k s = ap (λ p. p.1) is in
      let small : number_from_digits 256 (take k s) < 256 ^ k
      = rw (length-take-le k s enough) at (number_lt 256 (take k s) (All-take (λ b. b < 256) k s u)) in
      (n, rw is_number small, refl, rw (is_number, is_rest, bytes_number s (under_get_d s u) k enough) (sym (take-append-drop k s)));
  complete = λ n small rest.
      let long : k ≤ length (bytes k n ++ rest) = simp length-append (omega (arith, length_bytes k n)) in
      rw (
        le-leb k (length (bytes k n ++ rest)) long,
        take_at (bytes k n) rest k (length_bytes k n),
        drop_at (bytes k n) rest k (length_bytes k n),
        number_bytes k n small,
      );
}

pub byte_taken : (b : ℕ) (rest : List ℕ) → take_number 1 (b ∷ rest) ≡ Some (b, rest)
byte_taken b rest =
    let is : number_from_digits 256 (b ∷ []) ≡ b = omega arith in
    rw (le-leb 1 (length (b ∷ rest)) (omega arith), is)

pub byte_part : Part (take_number 1) (λ b. b) (λ b. b ∷ []) (λ b. b < 256)
unfolding bytes
byte_part = told_by (λ b small. (b, small, refl, is_byte b small)) (λ b small. (b, small, refl, is_byte b small)) (number_part 1)
  where
    is_byte : (b : ℕ) → b < 256 → bytes 1 b ≡ b ∷ []
    is_byte b small = ap (λ n. n ∷ []) (mod-eq_of_lt small)

abbrev NamesFit : ℕ → List ℕ → Type 0
NamesFit k names = (length names ≡ k) × AllByRecursion (λ n. n < 2 ^ 16) names

pub names_part : (k : ℕ) → Part (take_numbers k) (λ names. names) (flat_map (bytes 2)) (NamesFit k)
unfolding take_numbers
names_part zero = record {
  sound = λ s u names rest e.
      let same : ◌≡◌ {A = List ℕ × List ℕ} ([], s) (names, rest) = cc in
      ([], (refl, tt), sym (ap (λ p. p.0) same), ap (λ p. p.1) same);
  complete = λ names fit rest. rw (empty names fit.0);
}
  where
    empty : (names : List ℕ) → length names ≡ 0 → names ≡ []
    empty [] e = refl
    empty (n ∷ names) e = impossible (omega arith)
names_part (suc k) = told_by
    (λ p fit. (p.0 ∷ p.1, (ap suc fit.1.0, (fit.0, fit.1.1)), refl, refl))
    back
    (both _ (number_part 2) λ name. turned (λ names. name ∷ names) (names_part k))
  where
    back : (names : List ℕ) → NamesFit (suc k) names →
        (p : ℕ × List ℕ) × ((p.0 < 256 ^ 2) × NamesFit k p.1) × (p.0 ∷ p.1 ≡ names)
        × (bytes 2 p.0 ++ flat_map (bytes 2) p.1 ≡ flat_map (bytes 2) names)
    back [] fit = impossible (omega arith)
    back (n ∷ names) fit = ((n, names), (fit.1.0, (omega arith, fit.1.1)), refl, refl)
