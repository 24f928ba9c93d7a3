-- Spans of days. Assumes nothing.
use Rattle.std.specs.Prelude.{ℕ, ◌+◌, ◌-◌, ◌^◌, ◌<◌, ◌≤◌, Bool, true, false, cond, ◌⊎◌, ◌↔◌, List, [], ◌∷◌, ◌++◌, Some, None, Option, codes, decimal, vec_items, ◌==◌}
use Rattle.inquiries.specs.declared.spans.Span.{Span}
use Rattle.inquiries.specs.declared.spans.SpansSoFar.{SpansSoFar}

-- the day lies in one of the spans
unfoldable pub Covered : ℕ → List Span → Type 0
Covered day [] = ⊥
Covered day (s ∷ spans) = ((s.first ≤ day) × (day ≤ s.last)) ⊎ Covered day spans

-- The spans begin no sooner than `from` and rise; each has a day, and behind each lies a day that is in none, all before `to`.
unfoldable pub Apart : ℕ → List Span → ℕ → Type 0
Apart from [] to = from ≤ to
Apart from (s ∷ spans) to = (from ≤ s.first) × (s.first ≤ s.last) × Apart (s.last + 2) spans to

-- Of all days that there are, exactly those with the property lie in the spans; these are rising, not empty, and no two touch.
pub record SpansOf (P : ℕ → Type 0) (spans : List Span) : Type 0 where
  pub apart : Apart 0 spans (2 ^ 32 + 1)
  pub exact : (day : ℕ) → day < 2 ^ 32 → Covered day spans ↔ P day

-- what is known before a day: spans that ended, and the first day of one that lasts
abbrev pub Since : Option ℕ → ℕ → Type 0
Since None day = ⊥
Since (Some first) day = first ≤ day

abbrev pub begun : Option ℕ → ℕ → ℕ
begun None day = day
begun (Some first) day = first

abbrev pub BegunBefore : Option ℕ → ℕ → Type 0
BegunBefore None day = Unit {0}
BegunBefore (Some first) day = first < day

pub record KnownBefore (P : ℕ → Type 0) (day : ℕ) (spans : List Span) (since : Option ℕ) : Type 0 where
  pub apart : Apart 0 spans (begun since day)
  pub begun_before : BegunBefore since day
  pub exact : (other : ℕ) → other < day → (Covered other spans ⊎ Since since other) ↔ P other

abbrev pub so_far : SpansSoFar → List Span × Option ℕ
so_far s = (vec_items s.done, s.since)

-- a span that ends
abbrev pub ended : List Span → Option ℕ → ℕ → List Span
ended spans None last = spans
ended spans (Some first) last = spans ++ (record { first = first; last = last } ∷ [])

-- from the day on there is the property, or not: a span begins or lasts, or ends on the day before
abbrev pub gone_on : List Span → Option ℕ → ℕ → Bool → List Span × Option ℕ
gone_on spans since day true = (spans, Some (begun since day))
gone_on spans since day false = (ended spans since (day - 1), None)

-- the text of a span: its first day and its last, or `on` where it lasts to the last day that there is
abbrev pub text_of : Span → List ℕ
text_of s = decimal s.first ++ (codes " " ++ cond (s.last == 4294967295) (codes "on") (decimal s.last))
