-- Readers of parts, each exact: it reads a value where the bytes are those of the value, and nowhere else. Assumes nothing.
use Rattle.std.proofs.Common.{◌≡◌, ℕ, Bool, true, false, cond, List, [], ◌∷◌, ◌++◌, Some, None, sym, refl, ap, ◌∙◌, append_assoc, arith}
use Rattle.std.specs.Int.Digits.{AllBelowBase}
use Rattle.wire.specs.Numbers.{Taken, and_then}

-- from what `cc` or `omega` finds contradictory, anything
pub impossible : {A : Type 0} → ◌≡◌ {A = ℕ} 0 1 → A
impossible e = let none : ⊥ = omega arith in absurd none

-- The reader reads `value i`, for an i that fits, exactly where the bytes begin with those of i.
pub record Part {I A : Type 0} (reader : List ℕ → Taken A) (value : I → A) (written : I → List ℕ) (Fit : I → Type 0) : Type 0 where
  pub sound : (s : List ℕ) → AllBelowBase 256 s → (a : A) (rest : List ℕ) → reader s ≡ Some (a, rest) →
      (i : I) × Fit i × (a ≡ value i) × (s ≡ written i ++ rest)
  pub complete : (i : I) → Fit i → (rest : List ℕ) → reader (written i ++ rest) ≡ Some (value i, rest)

-- where one part after the other was taken, so was each
taken_then : {A B : Type 0} (x : Taken A) (next : A → List ℕ → Taken B) (y : B × List ℕ) →
    and_then x next ≡ Some y → (p : A × List ℕ) × (x ≡ Some p) × (next p.0 p.1 ≡ Some y)
taken_then None next y e = impossible (cc)
taken_then (Some p) next y e = (p, refl, e)

under_rest : (w rest : List ℕ) → AllBelowBase 256 (w ++ rest) → AllBelowBase 256 rest
under_rest [] rest u = u
under_rest (b ∷ w) rest u = under_rest w rest u.1

-- one part after the other
pub both : {I J A B : Type 0} {reader : List ℕ → Taken A} {value : I → A} {written : I → List ℕ} {Fit : I → Type 0}
    {value' : I → J → B} {written' : I → J → List ℕ} {Fit' : I → J → Type 0} (next : A → List ℕ → Taken B) →
    Part reader value written Fit → ((i : I) → Part (next (value i)) (value' i) (written' i) (Fit' i)) →
    Part (λ s. and_then (reader s) next) (λ (p : I × J). value' p.0 p.1)
    (λ p. written p.0 ++ written' p.0 p.1) (λ p. Fit p.0 × Fit' p.0 p.1)
both {reader} {written} {written'} next first second = record {
  sound = λ s u b rest e.
      let (p, e₁, e₂) = taken_then (reader s) next (b, rest) e in
      let (i, f₁, v₁, w₁) = first.sound s u p.0 p.1 e₁ in
      let (j, f₂, v₂, w₂) = (second i).sound p.1 (under_rest (written i) p.1 (rw w₁ at u)) b rest (rw v₁ at e₂) in
      ((i, j), (f₁, f₂), v₂, w₁ ∙ (ap (λ t. written i ++ t) w₂ ∙ sym (append_assoc (written i) (written' i j) rest)));
  complete = λ p f rest.
      rw (append_assoc (written p.0) (written' p.0 p.1) rest, first.complete p.0 f.0 (written' p.0 p.1 ++ rest))
      ((second p.0).complete p.1 f.1 rest);
}

-- what was read, turned into another value
pub turned : {I A B : Type 0} {reader : List ℕ → Taken A} {value : I → A} {written : I → List ℕ} {Fit : I → Type 0}
    (f : A → B) → Part reader value written Fit → Part (λ s. and_then (reader s) λ a rest. Some (f a, rest)) (λ i. f (value i)) written Fit
turned {B} {reader} {written} f part = record {
  sound = λ s u b rest e.
      let (p, e₁, e₂) = taken_then (reader s) (λ a rest. Some (f a, rest)) (b, rest) e in
      let (i, fit, v, w) = part.sound s u p.0 p.1 e₁ in
      let same : ◌≡◌ {A = B × List ℕ} (f p.0, p.1) (b, rest) = cc in
      (i, fit, sym (ap (λ q. q.0) same) ∙ ap f v, w ∙ ap (λ t. written i ++ t) (ap (λ q. q.1) same));
  complete = λ i fit rest. rw (part.complete i fit rest);
}

-- the same values and bytes, told by another index
pub told_by : {I J A : Type 0} {reader : List ℕ → Taken A} {value : I → A} {written : I → List ℕ} {Fit : I → Type 0}
    {value' : J → A} {written' : J → List ℕ} {Fit' : J → Type 0} →
    ((i : I) → Fit i → (j : J) × Fit' j × (value i ≡ value' j) × (written i ≡ written' j)) →
    ((j : J) → Fit' j → (i : I) × Fit i × (value i ≡ value' j) × (written i ≡ written' j)) →
    Part reader value written Fit → Part reader value' written' Fit'
told_by {reader} forth back part = record {
  sound = λ s u a rest e.
      let (i, fit, v, w) = part.sound s u a rest e in
      let (j, fit', v', w') = forth i fit in
      (j, fit', v ∙ v', w ∙ ap (λ t. t ++ rest) w');
  complete = λ j fit' rest.
      let (i, fit, v', w') = back j fit' in
      sym (ap (λ t. reader (t ++ rest)) w') ∙ (part.complete i fit rest ∙ ap (λ a. Some (a, rest)) v');
}

-- one reader or another, by a test
pub chosen : {I A : Type 0} {value : I → A} {written : I → List ℕ} {Fit : I → Type 0} (b : Bool) {yes no : List ℕ → Taken A} →
    (b ≡ true → Part yes value written Fit) → (b ≡ false → Part no value written Fit) → Part (λ s. cond b (yes s) (no s)) value written Fit
chosen true p q = p refl
chosen false p q = q refl

-- where nothing fits, nothing is read
pub never : {I A : Type 0} {value : I → A} {written : I → List ℕ} {Fit : I → Type 0} → ((i : I) → Fit i → ⊥) → Part (λ s. None) value written Fit
never nothing = record {
  sound = λ s u a rest e. impossible (cc);
  complete = λ i fit rest. absurd (nothing i fit);
}
