-- Entries in order: each stands before all behind it, so the index can be halved. Assumes nothing.
use Rattle.std.proofs.Common.{◌≡◌, ℕ, ◌+◌, ◌-◌, ◌<◌, ◌≤◌, true, false, List, length, get_or, sym, ap, subst, ◌∙◌, inl, inr, arith}
use Rattle.registry.specs.Index.{compared, is_of, Rising, Place}
use Rattle.registry.specs.declared.Entry.{Entry}
use Rattle.std.proofs.lemmas.List.Edits.{length-insert, get_or-insert_below, get_or-insert_at, get_or-insert_above}
use Rattle.std.proofs.lemmas.List.Sorted.{searchable_from_sorted}
use Rattle.std.proofs.lemmas.Bool.{cases_order}
use Rattle.std.proofs.lemmas.Bool.Decides.{nat_tests}
use Rattle.std.proofs.lemmas.Cmp.{then_total, on_total, nat_cmp_total}
use Rattle.std.specs.Cmp.{IsTotalOrder}
use Rattle.std.specs.List.{insert}
use Rattle.std.specs.List.Sorted.{IsNonDecreasingBy}
use Rattle.std.specs.Ordering.{nat_cmp, ordering_then, ordering_index, is_lt, ordering_reverse}
use Rattle.std.specs.declared.cmp.Ordering.{Ordering}
use Rattle.std.specs.declared.cmp.Ordering.TheVariants.{Less, Equal, Greater}

-- what an entry is sorted by, and the order of these
abbrev pub key : Entry → ℕ × ℕ
key e = (e.house, e.name)

abbrev pub key_cmp : ℕ × ℕ → ℕ × ℕ → Ordering
key_cmp x y = ordering_then (nat_cmp x.0 y.0) (nat_cmp x.1 y.1)

key_order : IsTotalOrder key_cmp
key_order = then_total (on_total (λ (x : ℕ × ℕ). x.0) nat_cmp_total) (on_total (λ (x : ℕ × ℕ). x.1) nat_cmp_total)

module _ (e : Entry) (house name : ℕ) where
  pub same_of : compared house name e ≡ Equal → is_of e house name ≡ true
  same_of stands = grind (arith, nat_tests)

  pub before_other : compared house name e ≡ Less → is_of e house name ≡ false
  before_other stands = grind (arith, nat_tests)

  pub behind_other : compared house name e ≡ Greater → is_of e house name ≡ false
  behind_other stands = grind (arith, nat_tests)

-- which of two stands before the other, asked from either
turned : (e f : Entry) (o : Ordering) → compared f.house f.name e ≡ o → compared e.house e.name f ≡ ordering_reverse o
turned e f o stands = key_order.antisymm (key f) (key e) ∙ ap ordering_reverse stands

module _ (es : List Entry) (place : ℕ) (x : Entry) (within : place ≤ length es) where
  -- what holds of each entry, with one that comes: those behind it stand one place later
  pub at_inserted : (P : Entry → Type 0) (j : ℕ) (d : Entry) → (j < place → P (get_or es j d)) → (j ≡ place → P x) → (place < j → P (get_or es (j - 1) d)) → P (get_or (insert es place x) j d)
  at_inserted P j d front here back = elim (cases_order j place) [
    | inl same ↦ subst P (sym (rw same (get_or-insert_at es place x d within))) (here same)
    | inr (inl below) ↦ subst P (sym (get_or-insert_below es place x d j below within)) (front below)
    | inr (inr above) ↦
        let next : j - 1 + 1 ≡ j = omega arith in
        subst P (sym (rw next at (get_or-insert_above es place x d (j - 1) (omega arith) within))) (back above)
  ]

module _ (es : List Entry) (up : Rising es) where
  -- so the index may be halved
  pub searchable : (house name : ℕ) → IsNonDecreasingBy (λ e. ordering_index (compared house name e)) es
  searchable house name = searchable_from_sorted key_order key es (house, name) (λ k d low within.
      ap is_lt (turned (get_or es k d) (get_or es (k + 1) d) Less (up k (k + 1) d (omega arith) within)))

  -- an entry more, at its place
  pub rising_inserted : (place : ℕ) (x : Entry) → Place es x.house x.name place → Rising (insert es place x)
  rising_inserted place x at i j d less within =
      let long = length-insert es place x at.within in
      let front = λ (k : ℕ) (below : k < place). get_or-insert_below es place x d k below at.within in
      let here = get_or-insert_at es place x d at.within in
      let back = λ (k : ℕ) (above : place < k).
      let next : k - 1 + 1 ≡ k = omega arith in
      rw next at (get_or-insert_above es place x d (k - 1) (omega arith) at.within) in
      elim (cases_order i place) [
        | inl same ↦
            rw (same, here, back j (omega arith)) (turned (get_or es (j - 1) d) x Greater (at.parted.1 (j - 1) d (omega arith) (omega arith)))
        | inr (inl first) ↦
            rw (front i first)
            (elim (cases_order j place) [
              | inl same ↦ rw (same, here) (at.parted.0 i d (omega arith) first)
              | inr (inl too) ↦ rw (front j too) (up i j d less (omega arith))
              | inr (inr behind) ↦ rw (back j behind) (up i (j - 1) d (omega arith) (omega arith))
            ])
        | inr (inr behind) ↦ rw (back i behind, back j (omega arith)) (up (i - 1) (j - 1) d (omega arith) (omega arith))
      ]
