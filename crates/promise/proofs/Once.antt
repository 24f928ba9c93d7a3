-- What holds of a gate after one event, in either case. Assumes nothing.
use Rattle.std.proofs.Common.{ℕ, ◌+◌, ◌<◌, ◌≤◌, ltb, List, [], ◌∷◌, ◌++◌, length}
use Rattle.certificates.specs.declared.Certificate.{Certificate}
use Rattle.promise.specs.States.{State, AfterEvent, revoke_at, take}
use Rattle.std.proofs.lemmas.Bool.{cond_both, ltb-true, ltb-false}
use Rattle.wire.specs.declared.events.Event.TheVariants.{Issued, Revoked, DayPassed}

-- the gate with other certificates, or on another day
abbrev pub holding : State → List Certificate → State
holding g cs = record { owner = g.owner; day = g.day; certificates = cs }

abbrev pub on_day : State → ℕ → State
on_day g day = record { owner = g.owner; day = day; certificates = g.certificates }

module _ (g : State) (P : State → Type 0) where
  pub once_issued : (c : Certificate) → (length g.certificates < 1024 → P (holding g (g.certificates ++ (c ∷ [])))) →
      (1024 ≤ length g.certificates → P g) → P (take g (Issued c)).0
  once_issued c room full =
      let n = length g.certificates in
      cond_both (ltb n 1024) _ _ (λ (t : AfterEvent). P t.0) (λ e. room (ltb-true n 1024 e)) (λ e. full (ltb-false n 1024 e))

  pub once_revoked : (number : ℕ) → (number < length g.certificates → P (holding g (revoke_at number g.certificates))) →
      (length g.certificates ≤ number → P g) → P (take g (Revoked number)).0
  once_revoked number known unknown =
      let n = length g.certificates in
      cond_both (ltb number n) _ _ (λ (t : AfterEvent). P t.0) (λ e. known (ltb-true number n e)) (λ e. unknown (ltb-false number n e))

  pub once_passed : (g.day < 4294967295 → P (on_day g (g.day + 1))) → (4294967295 ≤ g.day → P g) → P (take g DayPassed).0
  once_passed next last =
      cond_both (ltb g.day 4294967295) _ _ (λ (t : AfterEvent). P t.0) (λ e. next (ltb-true g.day 4294967295 e)) (λ e. last (ltb-false g.day 4294967295 e))
