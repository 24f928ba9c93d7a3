-- Single bits of a number: of a union, of a power of two. Assumes nothing.
use Rattle.std.proofs.Common.{◌≡◌, ℕ, ◌*◌, ◌%◌, ◌^◌, ◌<◌, not, ◌||◌, eqb, leb, ◌⊎◌, sym, refl, ap, ◌∙◌, inl, inr, arith}
use Rattle.certificates.specs.Rights.{member}
use Rattle.std.proofs.lemmas.Bool.{lt-leb, cases_eq, eq-eqb, ne_eqb}
use Rattle.std.proofs.lemmas.Bool.Decides.{nat_tests}
use Rattle.std.proofs.lemmas.Nat.Bits.{bit_at-lt, bit_at-pow_other, bit_at-pow_same, bit_at_above, bit_at_or, and_pow}
use Rattle.std.proofs.Math.Nat.{zero-mul}
use Rattle.std.proofs.lemmas.Nat.{one_shl, pow_pos}
use Rattle.std.specs.Int.{bit_at}
use lib.Bits.{bit_and, bit_or}

-- a number above 63 is in no set
pub past_last : (set right : ℕ) → set < 2 ^ 64 → 63 < right → leb right 63 ≡ member right set
past_last set right small past = lt-leb right 63 past ∙ sym (ap (λ n. eqb n 1) (bit_at_above set 64 right small past))

-- a bit is set where the mask that has only this bit leaves something
pub masked : (set right : ℕ) → right < 64 → not (eqb (bit_and set (1 * 2 ^ right % 2 ^ 64)) 0) ≡ member right set
masked set right small =
    let is : bit_and set (1 * 2 ^ right % 2 ^ 64) ≡ bit_at set right * 2 ^ right = ap (bit_and set) (one_shl right 64 small) ∙ and_pow set right in
    ap (λ n. not (eqb n 0)) is ∙ go (cases_eq (bit_at set right) 1)
  where
    go : (bit_at set right ≡ 1) ⊎ (bit_at set right ≡ 1 → ⊥) → not (eqb (bit_at set right * 2 ^ right) 0) ≡ eqb (bit_at set right) 1
    go (inl one) = let some : bit_at set right * 2 ^ right ≡ 0 → ⊥ = rw one (λ none. omega (arith, none, pow_pos right)) in
        ap not (ne_eqb _ 0 some) ∙ sym (eq-eqb _ 1 one)
    go (inr other) = let none : bit_at set right ≡ 0 = omega (arith, other, bit_at-lt set right) in
        ap (λ n. not (eqb (n * 2 ^ right) 0)) none ∙ (ap (λ n. not (eqb n 0)) (zero-mul (2 ^ right)) ∙ sym (ne_eqb _ 1 other))

-- a union has the bits of both
pub member_or : (q m n : ℕ) → member q (bit_or m n) ≡ (member q m || member q n)
member_or q m n = grind (arith, nat_tests, bit_at_or m n q, bit_at-lt m q, bit_at-lt n q)

-- a power of two has one bit
pub member_power : (q k : ℕ) → member q (2 ^ k) ≡ eqb q k
member_power q k = go (cases_eq q k)
  where
    go : (q ≡ k) ⊎ (q ≡ k → ⊥) → member q (2 ^ k) ≡ eqb q k
    go (inl same) = rw same (ap (λ n. eqb n 1) (bit_at-pow_same k) ∙ sym (eq-eqb k k refl))
    go (inr other) = ap (λ n. eqb n 1) (bit_at-pow_other k q other) ∙ sym (ne_eqb q k other)
