-- Spans that begin, last and end from day to day. Assumes nothing.
use Rattle.std.proofs.Common.{◌≡◌, ℕ, ◌+◌, ◌-◌, ◌^◌, ◌<◌, ◌≤◌, Bool, true, false, ◌⊎◌, ◌↔◌, inl, inr, List, [], ◌∷◌, ◌++◌, Some, None, Option, refl, arith}
use Rattle.inquiries.specs.Spans.{Covered, Apart, SpansOf, Since, KnownBefore, ended, gone_on}
use Rattle.inquiries.specs.declared.spans.Span.{Span}
use Rattle.sheets.proofs.Shown.{impossible}
use Rattle.std.proofs.lemmas.Bool.{cases_lt}
use Rattle.std.specs.Bool.{Decides}

apart_more : (from : ℕ) (spans : List Span) (to more : ℕ) → to ≤ more → Apart from spans to → Apart from spans more
unfolding Apart
apart_more from [] to more further a = omega arith
apart_more from (s ∷ spans) to more further (after, some, rest) = (after, some, apart_more (s.last + 2) spans to more further rest)

apart_bound : (from : ℕ) (spans : List Span) (to : ℕ) → Apart from spans to → from ≤ to
unfolding Apart
apart_bound from [] to a = a
apart_bound from (s ∷ spans) to (after, some, rest) = let far = apart_bound (s.last + 2) spans to rest in omega arith

apart_push : (from : ℕ) (spans : List Span) (s : Span) → Apart from spans s.first → s.first ≤ s.last → Apart from (spans ++ (s ∷ [])) (s.last + 2)
unfolding Apart
apart_push from [] s a some = (a, some, omega arith)
apart_push from (t ∷ spans) s (after, has, rest) some = (after, has, apart_push (t.last + 2) spans s rest some)

covered_below : (from : ℕ) (spans : List Span) (to day : ℕ) → Apart from spans to → Covered day spans → day + 2 ≤ to
unfolding Apart Covered
covered_below from [] to day a c = absurd c
covered_below from (s ∷ spans) to day (after, some, rest) (inl (begins, lasts)) = let far = apart_bound (s.last + 2) spans to rest in omega arith
covered_below from (s ∷ spans) to day (after, some, rest) (inr c) = covered_below (s.last + 2) spans to day rest c

covered_push : (day : ℕ) (spans : List Span) (s : Span) → Covered day (spans ++ (s ∷ [])) → Covered day spans ⊎ ((s.first ≤ day) × (day ≤ s.last))
unfolding Covered
covered_push day [] s (inl within) = inr within
covered_push day [] s (inr none) = absurd none
covered_push day (t ∷ spans) s (inl within) = inl (inl within)
covered_push day (t ∷ spans) s (inr c) = either (covered_push day spans s c)
  where
    either : Covered day spans ⊎ ((s.first ≤ day) × (day ≤ s.last)) → (((t.first ≤ day) × (day ≤ t.last)) ⊎ Covered day spans) ⊎ ((s.first ≤ day) × (day ≤ s.last))
    either (inl before) = inl (inr before)
    either (inr within) = inr within

push_before : (day : ℕ) (spans : List Span) (s : Span) → Covered day spans → Covered day (spans ++ (s ∷ []))
unfolding Covered
push_before day [] s c = absurd c
push_before day (t ∷ spans) s (inl within) = inl within
push_before day (t ∷ spans) s (inr c) = inr (push_before day spans s c)

push_last : (day : ℕ) (spans : List Span) (s : Span) → (s.first ≤ day) × (day ≤ s.last) → Covered day (spans ++ (s ∷ []))
unfolding Covered
push_last day [] s within = inl within
push_last day (t ∷ spans) s within = inr (push_last day spans s within)

first_of_none : {A : Type 0} → A ⊎ ⊥ → A
first_of_none (inl a) = a
first_of_none (inr none) = absurd none

module _ (P : ℕ → Type 0) where
  -- each day is one before, or one of those on which it is as on `day`
  split : (day next : ℕ) (spans : List Span) (since : Option ℕ) →
      ((other : ℕ) → other < day → (Covered other spans ⊎ Since since other) ↔ P other) →
      ((other : ℕ) → day ≤ other → other < next → (Covered other spans ⊎ Since since other) ↔ P other) →
      (other : ℕ) → other < next → (Covered other spans ⊎ Since since other) ↔ P other
  split day next spans since before from other below = either (cases_lt other day)
    where
      either : (other < day) ⊎ (day ≤ other) → (Covered other spans ⊎ Since since other) ↔ P other
      either (inl less) = before other less
      either (inr more) = from other more below

  -- a span that ends is one of the spans
  ended_exact : (first last : ℕ) (spans : List Span) (other : ℕ) → other ≤ last → (Covered other spans ⊎ (first ≤ other)) ↔ P other →
      (Covered other (spans ++ (record { first = first; last = last } ∷ [])) ⊎ ⊥) ↔ P other
  ended_exact first last spans other within e = (to, from)
    where
      s : Span
      s = record { first = first; last = last }

      to : Covered other (spans ++ (record { first = first; last = last } ∷ [])) ⊎ ⊥ → P other
      to (inr none) = absurd none
      to (inl c) = either (covered_push other spans (record { first = first; last = last }) c)
        where
          either : Covered other spans ⊎ ((first ≤ other) × (other ≤ last)) → P other
          either (inl before) = e.0 (inl before)
          either (inr (begins, lasts)) = e.0 (inr begins)

      from : P other → Covered other (spans ++ (record { first = first; last = last } ∷ [])) ⊎ ⊥
      from p = either (e.1 p)
        where
          either : Covered other spans ⊎ (first ≤ other) → Covered other (spans ++ (record { first = first; last = last } ∷ [])) ⊎ ⊥
          either (inl before) = inl (push_before other spans (record { first = first; last = last }) before)
          either (inr begins) = inl (push_last other spans (record { first = first; last = last }) (begins, within))

  module _ (day next : ℕ) (later : day < next) (same : (other : ℕ) → day ≤ other → other < next → P other ↔ P day) where
    none_there : (spans : List Span) (to other : ℕ) → Apart 0 spans to → to ≤ day + 1 → (P day → false ≡ true) → day ≤ other → other < next → (Covered other spans ⊎ ⊥) ↔ P other
    none_there spans to other a few not from below = (to_p, from_p)
      where
        to_p : Covered other spans ⊎ ⊥ → P other
        to_p (inl c) = let less = covered_below 0 spans to other a c in absurd (omega arith)
        to_p (inr none) = absurd none

        from_p : P other → Covered other spans ⊎ ⊥
        from_p p = let e : false ≡ true = not ((same other from below).0 p) in impossible (cc)

    pub step : (may : Bool) (spans : List Span) (since : Option ℕ) → KnownBefore P day spans since → Decides may (P day) →
        KnownBefore P next (gone_on spans since day may).0 (gone_on spans since day may).1
    step true spans None k d = record {
      apart = k.apart;
      begun_before = later;
      exact = split day next spans (Some day)
          (λ other less. ((λ known. (k.exact other less).0 (settled known less)), (λ p. inl (first_of_none ((k.exact other less).1 p)))))
          (λ other from below. ((λ known. (same other from below).1 (d.0 refl)), (λ p. inr from)));
    }
      where
        settled : {other : ℕ} → Covered other spans ⊎ (day ≤ other) → other < day → Covered other spans ⊎ ⊥
        settled (inl c) less = inl c
        settled (inr more) less = absurd (omega arith)
    step true spans (Some first) k d = record {
      apart = k.apart;
      begun_before = let before = k.begun_before in omega arith;
      exact = split day next spans (Some first) k.exact
          (λ other from below. ((λ known. (same other from below).1 (d.0 refl)), (λ p. let before = k.begun_before in inr (omega arith))));
    }
    step false spans None k d = record {
      apart = apart_more 0 spans day next (omega arith) k.apart;
      begun_before = tt;
      exact = split day next spans None k.exact (λ other from below. none_there spans day other k.apart (omega arith) d.1 from below);
    }
    step false spans (Some first) k d =
        let s : Span = record { first = first; last = day - 1 } in
        let before = k.begun_before in
        let pushed : Apart 0 (spans ++ (s ∷ [])) (day - 1 + 2) = apart_push 0 spans s k.apart (omega arith) in
        record {
          apart = apart_more 0 (spans ++ (s ∷ [])) (day - 1 + 2) next (omega arith) pushed;
          begun_before = tt;
          exact = split day next (spans ++ (s ∷ [])) None
              (λ other less. ended_exact first (day - 1) spans other (omega arith) (k.exact other less))
              (λ other from below. none_there (spans ++ (s ∷ [])) (day - 1 + 2) other pushed (omega arith) d.1 from below);
        }

  -- at the end of days
  pub finish : (last : ℕ) (spans : List Span) (since : Option ℕ) → last + 1 ≡ 2 ^ 32 → KnownBefore P (2 ^ 32) spans since → SpansOf P (ended spans since last)
  finish last spans None is k = record {
    apart = apart_more 0 spans (2 ^ 32) (2 ^ 32 + 1) (omega arith) k.apart;
    exact = λ day below. ((λ c. (k.exact day below).0 (inl c)), (λ p. first_of_none ((k.exact day below).1 p)));
  }
  finish last spans (Some first) is k =
      let s : Span = record { first = first; last = last } in
      let before = k.begun_before in
      record {
        apart = apart_more 0 (spans ++ (s ∷ [])) (last + 2) (2 ^ 32 + 1) (omega arith) (apart_push 0 spans s k.apart (omega arith));
        exact = λ day below. (
          (λ c. (ended_exact first last spans day (omega arith) (k.exact day below)).0 (inl c)),
          (λ p. first_of_none ((ended_exact first last spans day (omega arith) (k.exact day below)).1 p)),
        );
      }
