-- Decisions: something holds or does not. Assumes nothing.
use Rattle.std.proofs.lemmas.Bool.{false≢true}
use Rattle.std.proofs.Common.{◌≡◌, Bool, true, false, ◌⊎◌, List, [], ◌∷◌, refl, subst, inl, inr, ⊎_elim}
use mathlib.Core.List.Memᴰ
use mathlib.Core.List.{Memᴰ}

abbrev pub Decision : Type 0 → Type 0
Decision P = P ⊎ (P → ⊥)

pub test_decided : (b : Bool) → Decision (b ≡ true)
test_decided true = inl refl
test_decided false = inr false≢true

pub like_decided : {P Q : Type 0} → (P → Q) → (Q → P) → Decision P → Decision Q
like_decided forth back (inl p) = inl (forth p)
like_decided forth back (inr none) = inr (λ q. none (back q))

pub not_decided : {P : Type 0} → Decision P → Decision (P → ⊥)
not_decided (inl p) = inr (λ none. none p)
not_decided (inr none) = inl none

pub both_decided : {P Q : Type 0} → Decision P → Decision Q → Decision (P × Q)
both_decided (inl p) (inl q) = inl (p, q)
both_decided (inl p) (inr none) = inr (λ b. none b.1)
both_decided (inr none) q = inr (λ b. none b.0)

-- some element of the list is so
abbrev pub Somewhere : {X : Type 0} → (X → Type 0) → List X → Type 0
Somewhere {X} P xs = (x : X) × Memᴰ x xs × P x

pub somewhere_decided : {X : Type 0} (P : X → Type 0) → ((x : X) → Decision (P x)) → (xs : List X) → Decision (Somewhere P xs)
somewhere_decided P each [] = inr (λ (x, i, p). Memᴰ.not-nil i)
somewhere_decided P each (y ∷ ys) = go (each y) (somewhere_decided P each ys)
  where
    go : Decision (P y) → Decision (Somewhere P ys) → Decision (Somewhere P (y ∷ ys))
    go (inl p) behind = inl (y, Memᴰ.head refl, p)
    go (inr none) (inl (x, i, p)) = inl (x, Memᴰ.tail i, p)
    go (inr none) (inr nowhere) = inr (λ (x, i, p). ⊎_elim (λ e. none (subst P e p)) (λ j. nowhere (x, j, p)) (Memᴰ.cases_cons i))
