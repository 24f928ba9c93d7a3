-- The index beside the certificates, when one comes or is taken back. Assumes nothing.
use Rattle.std.proofs.Common.{◌≡◌, ℕ, ◌+◌, ◌-◌, ◌<◌, Bool, true, false, cond, ◌&&◌, eqb, ltb, List, [], ◌∷◌, ◌++◌, length, Result, Ok, Err, sym, refl, ap, ◌∙◌, arith}
use Rattle.certificates.specs.declared.Certificate.{Certificate}
use Rattle.registry.proofs.Kept.{row_of_push, length_revoked, row_of_revoked}
use Rattle.registry.proofs.Lookup.{missing, found, nowhere, row_in_more, row_in_inserted}
use Rattle.registry.proofs.Order.{searchable, at_inserted, rising_inserted}
use Rattle.registry.specs.Index.{compared, is_of, Place, row_among, Numbers, Indexes, HasRow, Missing}
use Rattle.registry.specs.Names.{NewName, NoNewName}
use Rattle.registry.specs.Numbered.{revoke_at}
use Rattle.registry.specs.Rows.{says_name, states_name, row_of}
use Rattle.registry.specs.declared.Entry.{Entry}
use Rattle.std.proofs.lemmas.List.{length_push}
use Rattle.std.proofs.lemmas.List.Edits.{length-insert}
use Rattle.std.proofs.lemmas.Bool.{and_parts, eqb-true}
use Rattle.std.proofs.lemmas.Bool.Decides.{nat_tests}
use Rattle.std.specs.List.{insert, HoldsAt}
use Rattle.std.specs.List.Sorted.{IsSearchInRange, IsBinarySearchResult}
use Rattle.std.specs.Result.{MatchResult}

pub none_indexed : Indexes [] []
unfolding row_among row_of
none_indexed = record {
  rising = λ i j d less within. let never : ⊥ = omega arith in absurd never;
  agrees = λ house name. refl;
  numbers = λ k d low within. let never : ⊥ = omega arith in absurd never;
}

known_row : (states : Bool) (r n : ℕ) → (states ≡ true → r < n) → cond (ltb r n) r (n + 1) ≡ cond (ltb r n) r (cond states n (n + 1))
known_row true r n known = let less = known refl in grind (arith, nat_tests)
known_row false r n known = refl

new_row : (states : Bool) (r n : ℕ) → (states ≡ true → r ≡ n) → cond states n (cond (ltb r n) r (n + 1)) ≡ cond (ltb r n) r (cond states n (n + 1))
new_row true r n new = let same = new refl in grind (arith, nat_tests)
new_row false r n new = refl

module _ (es : List Entry) (cs : List Certificate) (so : Indexes es cs) where
  module _ (c : Certificate) where
    rows_more : (house name : ℕ) → row_among es house name (length (cs ++ (c ∷ []))) ≡ cond (ltb (row_of cs house name) (length cs)) (row_of cs house name) (length cs + 1)
    rows_more house name = rw (length_push cs c, row_in_more house name (length cs) es so.numbers, so.agrees house name)

    numbers_more : Numbers es (cs ++ (c ∷ []))
    numbers_more k d low within = rw (length_push cs c) (omega (arith, so.numbers k d low within))

    -- a certificate more, without a new name
    pub indexes_push : NoNewName cs c → Indexes es (cs ++ (c ∷ []))
    indexes_push known = record {
      rising = so.rising;
      agrees = λ house name.
          rw (rows_more house name, row_of_push cs c house name) (known_row (states_name house name c) (row_of cs house name) (length cs) (known house name));
      numbers = numbers_more;
    }

    -- one with a new name, which is entered at its place
    pub indexes_entered : (place : ℕ) (x : Entry) → Place es x.house x.name place → x.house ≡ c.issuer → x.row ≡ length cs → NewName cs c x.name →
        Indexes (insert es place x) (cs ++ (c ∷ []))
    indexes_entered place x at issued next it =
        let first : row_of cs x.house x.name ≡ length cs = rw issued it.first in
        let new = nowhere es x.house x.name place at in
        record {
          rising = rising_inserted es so.rising place x at;
          agrees = λ house name.
              let says : states_name house name c ≡ is_of x house name = rw issued (ap (λ s. eqb c.issuer house && says_name name s) it.stated) in
              rw (row_in_inserted es place x house name (length (cs ++ (c ∷ []))) new, rows_more house name, row_of_push cs c house name, says, next)
              (new_row (is_of x house name) (row_of cs house name) (length cs) (λ is.
              let same = and_parts (eqb x.house house) (eqb x.name name) is in
              rw (← eqb-true x.house house same.0, ← eqb-true x.name name same.1) first));
          numbers = λ k d low less.
              let long = length-insert es place x at.within in
              at_inserted es place x at.within (λ e. e.row < length (cs ++ (c ∷ []))) k d (λ front. numbers_more k d (omega arith) (omega (arith, at.within)))
              (λ same. rw length_push (omega arith)) (λ back. numbers_more (k - 1) d (omega arith) (omega (arith, long)));
        }

  -- one that is taken back still states its name
  pub indexes_revoked : (i : ℕ) → Indexes es (revoke_at i cs)
  indexes_revoked i = record {
    rising = so.rising;
    agrees = λ house name. rw (length_revoked i cs, row_of_revoked i cs house name) (so.agrees house name);
    numbers = rw (length_revoked i cs) so.numbers;
  }

  -- what halving finds
  pub searched : (house name : ℕ) (r : Result ℕ ℕ) → IsSearchInRange r (length es) → IsBinarySearchResult (compared house name) es r →
      MatchResult r (HasRow es cs house name) (Missing es cs house name)
  searched house name (Ok place) within at =
      let is : HoldsAt (λ e. e.row ≡ row_of cs house name) es place = λ d. sym (found house name (length cs) es so.rising place within at d) ∙ so.agrees house name in
      let known : (d : Entry) → row_of cs house name < length cs = λ d. rw (is d) at (so.numbers place d (omega arith) within) in
      record { within = within; row = is; known = known (record { house = 0; name = 0; row = 0 }) }
  searched house name (Err place) within parted =
      let parts : Place es house name place = record { within = within; parted = parted (searchable es so.rising house name) } in
      record {
        parts = parts;
        none = sym (so.agrees house name) ∙ missing house name (length cs) es (nowhere es house name place parts);
      }
