-- A right carries over between lists of certificates of which the same are valid on the day. Assumes nothing.
use Rattle.certificates.specs.declared.access.Access.{Access}
use Rattle.std.proofs.Common.{◌≡◌, ℕ, Bool, true, false, cond, List, [], ◌∷◌, filter, sym, ap, ◌∙◌, ⊎_elim}
use Rattle.certificates.proofs.Meaning.{Carries, has_carries}
use Rattle.certificates.specs.Certificates.{valid}
use Rattle.certificates.specs.Meaning.{May}
use Rattle.certificates.specs.declared.Certificate.{Certificate}
use Rattle.sheets.proofs.Shown.{valid_from}
use Rattle.std.proofs.lemmas.Bool.{cond_both}
use mathlib.Core.List.Memᴰ
use mathlib.Core.List.{Memᴰ}

module _ {X : Type 0} (test : X → Bool) where
  in_kept : {x : X} {xs : List X} → Memᴰ x xs → test x ≡ true → Memᴰ x (filter test xs)
  in_kept (Memᴰ.head e) passes = rw (sym (ap test e) ∙ passes) (Memᴰ.head e)
  in_kept {x} (Memᴰ.tail {x = y} {xs = xs} i) passes =
      let behind = in_kept i passes in
      cond_both (test y) _ _ (Memᴰ x) (λ kept. Memᴰ.tail behind) (λ dropped. behind)

  from_kept : {x : X} (xs : List X) → Memᴰ x (filter test xs) → Memᴰ x xs
  from_kept [] i = i
  from_kept {x} (y ∷ xs) i = either (test y) (from_kept xs) i
    where
      either : (t : Bool) → (Memᴰ x (filter test xs) → Memᴰ x xs) →
          Memᴰ x (cond t (y ∷ filter test xs) (filter test xs)) → Memᴰ x (y ∷ xs)
      either true behind j = ⊎_elim (λ e. Memᴰ.head e) (λ k. Memᴰ.tail (behind k)) (Memᴰ.cases_cons j)
      either false behind j = Memᴰ.tail (behind j)

pub may_carries : (cs ds : List Certificate) (access : Access) (house : ℕ) → filter (valid access.day) cs ≡ filter (valid access.day) ds →
    May cs access house → May ds access house
unfolding Carries
may_carries cs ds access house same (d, h) =
    let over : Carries cs access.day ds access.day
    = λ c i v. (from_kept (valid access.day) ds (rw same at (in_kept (valid access.day) i (valid_from access.day c v))), v) in
    (d, has_carries access over h)
