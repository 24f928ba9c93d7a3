-- The row that entries have for a house's name. Assumes nothing.
use Rattle.std.proofs.Common.{◌≡◌, ℕ, zero, suc, ◌+◌, ◌<◌, false, cond, eqb, ltb, List, [], ◌∷◌, length, get_or, drop, refl, inl, inr, ◌∙◌, arith}
use Rattle.registry.proofs.Order.{same_of, before_other, behind_other}
use Rattle.registry.specs.Index.{compared, is_of, Rising, Place, row_among}
use Rattle.registry.specs.declared.Entry.{Entry}
use Rattle.std.proofs.lemmas.List.{drop_all, drop_more}
use Rattle.std.proofs.lemmas.Bool.Decides.{nat_tests}
use Rattle.std.proofs.lemmas.Bool.{cases_lt, and_parts, eqb-true}
use Rattle.std.specs.List.{insert, AllWithin, HoldsAt}
use Rattle.std.specs.declared.cmp.Ordering.TheVariants.{Equal}

-- what holds of each entry holds of those behind the first
behind : (P : Entry → Type 0) (e : Entry) (es : List Entry) (n : ℕ) → AllWithin P (e ∷ es) 0 (suc n) → AllWithin P es 0 n
behind P e es n each k d low less = each (suc k) d (omega arith) (omega arith)

module _ (house name none : ℕ) where
  -- entries of other names are passed over
  past : (es : List Entry) (n : ℕ) → AllWithin (λ e. is_of e house name ≡ false) es 0 n → row_among es house name none ≡ row_among (drop n es) house name none
  unfolding row_among
  past [] zero others = refl
  past [] (suc n) others = refl
  past (e ∷ es) zero others = refl
  past (e ∷ es) (suc n) others = rw (others 0 e (omega arith) (omega arith)) (past es n (behind (λ f. is_of f house name ≡ false) e es n others))

  pub missing : (es : List Entry) → AllWithin (λ e. is_of e house name ≡ false) es 0 (length es) → row_among es house name none ≡ none
  unfolding row_among
  missing es others = past es (length es) others ∙ rw (drop_all (length es) es (omega arith))

  pub found : (es : List Entry) → Rising es → (place : ℕ) → place < length es → HoldsAt (λ e. compared house name e ≡ Equal) es place → (d : Entry) →
      row_among es house name none ≡ (get_or es place d).row
  unfolding row_among
  found es up place within at d =
      past es place (λ k e low less.
      let x = get_or es place e in
      let same = and_parts (eqb x.house house) (eqb x.name name) (same_of x house name (at e)) in
      before_other (get_or es k e) house name (rw (eqb-true x.house house same.0, eqb-true x.name name same.1) at (up k place e less within)))
      ∙ rw (drop_more es place d within, same_of (get_or es place d) house name (at d))

-- where the entries are parted around a name, none is of it
pub nowhere : (es : List Entry) (house name place : ℕ) → Place es house name place → AllWithin (λ e. is_of e house name ≡ false) es 0 (length es)
nowhere es house name place at k d low within = elim (cases_lt k place) [
  | inl front ↦ before_other (get_or es k d) house name (at.parted.0 k d low front)
  | inr rest ↦ behind_other (get_or es k d) house name (at.parted.1 k d rest within)
]

module _ (house name n : ℕ) where
  -- with a certificate more
  pub row_in_more : (es : List Entry) → AllWithin (λ e. e.row < n) es 0 (length es) →
      row_among es house name (n + 1) ≡ cond (ltb (row_among es house name n) n) (row_among es house name n) (n + 1)
  unfolding row_among
  row_in_more [] small = grind (arith, nat_tests)
  row_in_more (e ∷ es) small =
      let less = small 0 e (omega arith) (omega arith) in
      let rest = row_in_more es (behind (λ f. f.row < n) e es (length es) small) in
      grind (arith, nat_tests)

-- with an entry more, of a new name
pub row_in_inserted : (es : List Entry) (place : ℕ) (x : Entry) (house name none : ℕ) → AllWithin (λ e. is_of e x.house x.name ≡ false) es 0 (length es) →
    row_among (insert es place x) house name none ≡ cond (is_of x house name) x.row (row_among es house name none)
unfolding row_among
row_in_inserted [] zero x house name none new = refl
row_in_inserted [] (suc place) x house name none new = refl
row_in_inserted (e ∷ es) zero x house name none new = refl
row_in_inserted (e ∷ es) (suc place) x house name none new =
    let other = new 0 e (omega arith) (omega arith) in
    let rest = row_in_inserted es place x house name none (behind (λ f. is_of f x.house x.name ≡ false) e es (length es) new) in
    grind (arith, nat_tests)
