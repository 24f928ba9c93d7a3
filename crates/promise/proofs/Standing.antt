-- On every day a gate's valid certificates are those that stand: they came, and were not taken back later. Assumes nothing.
use Rattle.std.proofs.Common.{◌≡◌, ℕ, zero, suc, ◌+◌, ◌<◌, ◌≤◌, Bool, true, false, cond, ◌||◌, eqb, ltb, leb, List, [], ◌∷◌, ◌++◌, length, filter, refl, ap, ◌∙◌, append-nil, arith}
use Rattle.certificates.specs.Certificates.{valid, revoked_of}
use Rattle.certificates.specs.declared.Certificate.{Certificate}
use Rattle.promise.proofs.Eventful.{after_events}
use Rattle.promise.proofs.Once.{holding, on_day, once_issued, once_revoked, once_passed}
use Rattle.promise.specs.States.{State, fresh_gate, revoke_at}
use Rattle.promise.specs.Happened.{takes_back, standing_from, standing}
use Rattle.registry.proofs.Kept.{length_revoked}
use Rattle.std.proofs.lemmas.List.Elements.{filter-append}
use Rattle.std.proofs.lemmas.List.{length_push}
use Rattle.std.proofs.lemmas.Bool.{eq-eqb, ne_eqb, lt-leb, and_right, lt-ltb, le-ltb}
use Rattle.wire.specs.declared.events.Event.{Event}
use Rattle.wire.specs.declared.events.Event.TheVariants.{Issued, Revoked, DayPassed}

-- of certificates that are numbered from i on, those whose numbers are not taken back
left : (ℕ → Bool) → ℕ → List Certificate → List Certificate
left back i [] = []
left back i (c ∷ cs) = cond (back i) (left back (suc i) cs) (c ∷ left back (suc i) cs)

left_all : (i : ℕ) (cs : List Certificate) → left (λ j. false) i cs ≡ cs
unfolding left
left_all i [] = refl
left_all i (c ∷ cs) = ap (λ ds. c ∷ ds) (left_all (suc i) cs)

both_with : (t : Bool) (c : Certificate) (xs ys before behind : List Certificate) → xs ++ before ≡ ys ++ behind →
    cond t xs (c ∷ xs) ++ before ≡ cond t ys (c ∷ ys) ++ behind
both_with true c xs ys before behind same = same
both_with false c xs ys before behind same = ap (λ ds. c ∷ ds) same

-- one more at the end, with others behind it
left_push : (back : ℕ → Bool) (i : ℕ) (cs : List Certificate) (c : Certificate) (behind : List Certificate) (n : ℕ) → n ≡ i + length cs →
    left back i (cs ++ (c ∷ [])) ++ behind ≡ left back i cs ++ cond (back n) behind (c ∷ behind)
unfolding left
left_push back i [] c behind n is = let same : n ≡ i = omega arith in rw same (last (back i))
  where
    last : (t : Bool) → cond t [] (c ∷ []) ++ behind ≡ cond t behind (c ∷ behind)
    last true = refl
    last false = refl
left_push back i (d ∷ cs) c behind n is = both_with (back i) d _ _ behind _ (left_push back (suc i) cs c behind n (omega arith))

-- only the numbers count that there are
left_same : (back also : ℕ → Bool) (i : ℕ) (cs : List Certificate) → ((j : ℕ) → i ≤ j → j < i + length cs → also j ≡ back j) → left also i cs ≡ left back i cs
unfolding left
left_same back also i [] same = refl
left_same back also i (c ∷ cs) same =
    rw (same i (omega arith) (omega arith), left_same back also (suc i) cs (λ j from below. same j (omega arith) (omega arith)))

revoked_never : (day : ℕ) (c : Certificate) → valid day (revoked_of c) ≡ false
revoked_never zero c = refl
revoked_never (suc day) c = and_right (leb 1 (suc day)) (leb (suc day) 0) (lt-leb (suc day) 0 (omega arith))

-- with the number n too
abbrev with : ℕ → (ℕ → Bool) → ℕ → Bool
with n back j = eqb n j || back j

others_same : (n : ℕ) (back : ℕ → Bool) (i : ℕ) (cs : List Certificate) → ((j : ℕ) → i ≤ j → j < i + length cs → n ≡ j → ⊥) →
    left (with n back) i cs ≡ left back i cs
others_same n back i cs other = left_same back (with n back) i cs (λ j from below. rw (ne_eqb n j (other j from below)))

module _ (day : ℕ) where
  -- those that are valid on the day
  abbrev now : List Certificate → List Certificate
  now cs = filter (valid day) cs

  now_revoked : (t : Bool) (c : Certificate) (cs : List Certificate) → now (cond t cs (revoked_of c ∷ cs)) ≡ now cs
  now_revoked true c cs = refl
  now_revoked false c cs = rw (revoked_never day c)

  now_cond : (t : Bool) (c : Certificate) (cs ds : List Certificate) → now cs ≡ now ds → now (cond t cs (c ∷ cs)) ≡ now (cond t ds (c ∷ ds))
  now_cond true c cs ds same = same
  now_cond false c cs ds same = rw same

  now_front : (cs ds behind : List Certificate) → now cs ≡ now ds → now (cs ++ behind) ≡ now (ds ++ behind)
  now_front cs ds behind same = rw (filter-append (valid day) cs behind, filter-append (valid day) ds behind, same)

  -- what is valid on no day is as good as taken back
  left_revoked : (n : ℕ) (back : ℕ → Bool) (i k : ℕ) (cs : List Certificate) → n ≡ i + k → now (left back i (revoke_at k cs)) ≡ now (left (with n back) i cs)
  unfolding left revoke_at
  left_revoked n back i k [] is = refl
  left_revoked n back i zero (c ∷ cs) is =
      rw (eq-eqb n i (omega arith), now_revoked (back i) c (left back (suc i) cs), others_same n back (suc i) cs (λ j from below e. omega arith))
  left_revoked n back i (suc k) (c ∷ cs) is =
      rw (ne_eqb n i (λ e. omega arith))
      (now_cond (back i) c (left back (suc i) (revoke_at k cs)) (left (with n back) (suc i) cs) (left_revoked n back (suc i) k cs (omega arith)))

  -- what the gate has after the events, told by the day's valid ones
  abbrev Stand : List Event → List Certificate → State → Type 0
  Stand events cs g = now (after_events g events).certificates ≡ now cs

  stand_after : (g : State) (events : List Event) →
      Stand events (left (λ j. takes_back j events) 0 g.certificates ++ standing_from (length g.certificates) events) g
  unfolding after_events takes_back standing_from
  stand_after g [] = rw (append-nil (left (λ j. false) 0 g.certificates), left_all 0 g.certificates)
  stand_after g (Issued c ∷ events) =
      let cs = g.certificates in
      let n = length cs in
      let back : ℕ → Bool = λ j. takes_back j events in
      let one : length (cs ++ (c ∷ [])) ≡ suc n = omega (arith, length_push cs c) in
      once_issued g (Stand events (left back 0 cs ++ cond (ltb n 1024) (cond (back n) (standing_from (suc n) events) (c ∷ standing_from (suc n) events)) (standing_from n events))) c
      (λ room. rw (lt-ltb n 1024 room, ← left_push back 0 cs c (standing_from (suc n) events) n (omega arith), ← one) (stand_after (holding g (cs ++ (c ∷ []))) events))
      (λ full. rw (le-ltb n 1024 full) (stand_after g events))
  stand_after g (Revoked n ∷ events) =
      let cs = g.certificates in
      let back : ℕ → Bool = λ j. takes_back j events in
      let behind = standing_from (length cs) events in
      once_revoked g (Stand events (left (with n back) 0 cs ++ behind)) n
      (λ known. (rw (length_revoked n cs) at (stand_after (holding g (revoke_at n cs)) events))
      ∙ now_front (left back 0 (revoke_at n cs)) (left (with n back) 0 cs) behind (left_revoked n back 0 n cs (omega arith)))
      (λ unknown. rw (others_same n back 0 cs (λ j from below e. omega arith)) (stand_after g events))
  stand_after g (DayPassed ∷ events) =
      once_passed g (Stand events (left (λ j. takes_back j events) 0 g.certificates ++ standing_from (length g.certificates) events))
      (λ next. stand_after (on_day g (g.day + 1)) events) (λ last. stand_after g events)

  pub valid_stand : (owner : ℕ) (events : List Event) → now (after_events (fresh_gate owner) events).certificates ≡ now (standing events)
  unfolding left
  valid_stand owner events = stand_after (fresh_gate owner) events
