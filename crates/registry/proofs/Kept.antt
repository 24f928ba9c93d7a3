-- What certificates by number keep when one comes or is taken back. Assumes nothing.
use Rattle.std.proofs.Common.{◌≡◌, ℕ, zero, suc, ◌+◌, ◌<◌, ◌≤◌, true, cond, ◌&&◌, ltb, List, [], ◌∷◌, ◌++◌, length, get_or, set, refl, ap, arith}
use Rattle.certificates.specs.Certificates.{in_range, revoked_of}
use Rattle.certificates.specs.declared.Certificate.{Certificate}
use Rattle.registry.specs.Keeping.{all_in_range}
use Rattle.registry.specs.Numbered.{revoke_at}
use Rattle.registry.specs.Rows.{states_name, row_of}
use Rattle.std.proofs.lemmas.Bool.{and_parts, and_from}
use Rattle.std.proofs.lemmas.Bool.Decides.{nat_tests}

pub in_range_at : (cs : List Certificate) (i : ℕ) (d : Certificate) → all_in_range cs ≡ true → i < length cs → in_range (get_or cs i d) ≡ true
unfolding all_in_range
in_range_at [] i d all within = let never : ⊥ = omega arith in absurd never
in_range_at (c ∷ cs) zero d all within = (and_parts (in_range c) (all_in_range cs) all).0
in_range_at (c ∷ cs) (suc i) d all within = in_range_at cs i d (and_parts (in_range c) (all_in_range cs) all).1 (omega arith)

pub in_range_push : (cs : List Certificate) (c : Certificate) → all_in_range cs ≡ true → in_range c ≡ true → all_in_range (cs ++ (c ∷ [])) ≡ true
unfolding all_in_range
in_range_push [] c all here = and_from (in_range c) true here refl
in_range_push (d ∷ cs) c all here =
    let (this, those) = and_parts (in_range d) (all_in_range cs) all in
    and_from (in_range d) (all_in_range (cs ++ (c ∷ []))) this (in_range_push cs c those here)

-- the first that states a name stays the first
pub row_of_push : (cs : List Certificate) (c : Certificate) (house name : ℕ) →
    row_of (cs ++ (c ∷ [])) house name ≡ cond (ltb (row_of cs house name) (length cs)) (row_of cs house name) (cond (states_name house name c) (length cs) (length cs + 1))
unfolding row_of
row_of_push [] c house name = refl
row_of_push (d ∷ cs) c house name = let rest = row_of_push cs c house name in grind (arith, nat_tests)

pub in_range_revoked : (i : ℕ) (cs : List Certificate) → all_in_range (revoke_at i cs) ≡ all_in_range cs
unfolding all_in_range revoke_at
in_range_revoked i [] = refl
in_range_revoked zero (c ∷ cs) = refl
in_range_revoked (suc i) (c ∷ cs) = ap (λ b. in_range c && b) (in_range_revoked i cs)

pub length_revoked : (i : ℕ) (cs : List Certificate) → length (revoke_at i cs) ≡ length cs
unfolding revoke_at
length_revoked i [] = refl
length_revoked zero (c ∷ cs) = refl
length_revoked (suc i) (c ∷ cs) = ap suc (length_revoked i cs)

pub row_of_revoked : (i : ℕ) (cs : List Certificate) (house name : ℕ) → row_of (revoke_at i cs) house name ≡ row_of cs house name
unfolding row_of revoke_at
row_of_revoked i [] house name = refl
row_of_revoked zero (c ∷ cs) house name = refl
row_of_revoked (suc i) (c ∷ cs) house name = ap (λ n. cond (states_name house name c) 0 (suc n)) (row_of_revoked i cs house name)

-- a number that none has takes nothing back
pub revoke_past : (i : ℕ) (cs : List Certificate) → length cs ≤ i → revoke_at i cs ≡ cs
unfolding revoke_at
revoke_past i [] past = refl
revoke_past zero (c ∷ cs) past = let never : ⊥ = omega arith in absurd never
revoke_past (suc i) (c ∷ cs) past = ap (λ (ds : List Certificate). c ∷ ds) (revoke_past i cs (omega arith))

-- the code writes into place what the definition reaches by recursion
pub revoke_in_place : (cs : List Certificate) (i : ℕ) (c r : Certificate) → i < length cs → c ≡ get_or cs i c → r ≡ revoked_of c → set cs i r ≡ revoke_at i cs
unfolding revoke_at
revoke_in_place [] i c r within is back = let never : ⊥ = omega arith in absurd never
revoke_in_place (d ∷ cs) zero c r within is back = rw (back, is)
revoke_in_place (d ∷ cs) (suc i) c r within is back = ap (λ (ds : List Certificate). d ∷ ds) (revoke_in_place cs i c r (omega arith) is back)
