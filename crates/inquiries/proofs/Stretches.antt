-- Stretches of days in which a house may as on the first of them, or may not. Assumes nothing.
use Rattle.certificates.specs.Access.{on_day}
use Rattle.std.proofs.Common.{◌≡◌, ℕ, ◌+◌, ◌^◌, ◌<◌, ◌≤◌, Bool, true, false, ◌↔◌, inl, inr, List, [], length, Some, None, Ok, Err, Option, is_some, vec_items, sym, refl, subst, arith}
use Rattle.certificates.proofs.Meaning.{Carries, has_carries}
use Rattle.certificates.specs.Certificates.{Valid, valid}
use Rattle.certificates.specs.declared.Certificate.{Certificate}
use Rattle.finding.specs.Asking.{Untouched}
use Rattle.finding.specs.Growing.{MayTo}
use Rattle.finding.specs.declared.sheets_found.Unfound.{Unfound}
use Rattle.finding.specs.declared.sheets_found.Unfound.TheVariants.{NoSheet, TooShort, Malformed, OutOfRange, NoMemory, WrongSize}
use Rattle.inquiries.proofs.Spanning.{step, finish}
use Rattle.inquiries.specs.Changes.{Waits, until, a_day, NextChange}
use Rattle.inquiries.specs.Days.{asked_on, MayOn, AskedOn, Left, as_it_was, by_finding}
use Rattle.inquiries.specs.Spans.{Covered, Apart, SpansOf, KnownBefore, so_far, ended}
use Rattle.inquiries.specs.declared.spans.Span.{Span}
use Rattle.inquiries.specs.declared.spans.SpansSoFar.{SpansSoFar}
use Rattle.registry.specs.Numbered.{certificate_at}
use Rattle.sheets.proofs.Shown.{impossible, valid_true, valid_from, number_of}
use Rattle.sheets.specs.declared.checking.Question.{Question}
use Rattle.std.proofs.lemmas.Bool.{cases_lt, lt-ltb, le-ltb}
use Rattle.std.specs.Bool.{Decides}

-- what is kept from stretch to stretch: the next one begins on a day, or days end
pub record Along (cs : List Certificate) (q : Question) (names numbers : List ℕ) (next : Option ℕ) (spans : SpansSoFar) (names' numbers' : List ℕ) : Type 0 where
  pub known : KnownBefore (MayOn cs q) (until next) (vec_items spans.done) spans.since
  pub left : Left cs q names numbers names' numbers'

module _ (cs : List Certificate) (q : Question) where
  -- a certificate that is valid later is so now
  already : (day until other : ℕ) (c : Certificate) → Waits day until c → day ≤ other → other < until → Valid other c → (now : Bool) → valid day c ≡ now → Valid day c
  already day until other c waits from below v true is = valid_true day c is
  already day until other c waits from below v false is =
      let later = valid_from other c v in
      let not_so = waits is other from below in
      impossible (cc)

  -- on another day no more certificates are valid
  no_more : (day until other : ℕ) → ((i : ℕ) → i < length cs → Waits day until (certificate_at cs i)) → day ≤ other → other < until → Carries cs other cs day
  unfolding Carries
  no_more day until other wait from below c i v =
      let (n, few, is) = number_of i in
      let waits : Waits day until c = subst (λ (x : Certificate). Waits day until x) is (wait n few) in
      (i, already day until other c waits from below v (valid day c) refl)

  -- what a stretch is: it has a day, and in it the house may as on its first day, or may not
  record Stretch (day until : ℕ) (allowed : Bool) : Type 0 where
    later : day < until
    decides : Decides allowed (MayOn cs q day)
    same : (other : ℕ) → day ≤ other → other < until → MayOn cs q other ↔ MayOn cs q day

  -- behind the last day another stretch begins, or days end
  behind : (day last : ℕ) → day ≤ last → day < 2 ^ 32 → (day < until (a_day (last + 1))) × (until (a_day (last + 1)) ≤ last + 1)
  behind day last some small = elim (cases_lt (last + 1) (2 ^ 32)) [
    | inl less ↦ rw (lt-ltb (last + 1) (2 ^ 32) less) (omega arith, omega arith)
    | inr past ↦ rw (le-ltb (last + 1) (2 ^ 32) past) (omega arith, omega arith)
  ]

  stretch : (day : ℕ) → day < 2 ^ 32 → (may_to next : Option ℕ) → MayTo cs (asked_on day q) may_to → NextChange day may_to next cs → Stretch day (until next) (is_some may_to)
  stretch day small None next may_not change = record {
    later = change.later;
    decides = ((λ e. impossible (cc)), (λ may. absurd (may_not may)));
    same = λ other from below.
        ((λ (d, has). (d, has_carries (on_day other q.access) (no_more day (until next) other change.all_wait from below) has)), (λ may. absurd (may_not may)));
  }
  stretch day small (Some last) next (some, may) change =
      let (later, most) = behind day last (some small) small in
      rw change (record {
        later = later;
        decides = ((λ e. may day (omega arith) (some small)), (λ now. refl));
        same = λ other from below. ((λ now. may day (omega arith) (some small)), (λ now. may other from (omega (arith, most))));
      })

  pub begins : (names numbers : List ℕ) (spans : SpansSoFar) → so_far spans ≡ ([], None) → Along cs q names numbers (Some 0) spans names numbers
  unfolding Apart Covered
  begins names numbers spans none = record {
    known = subst (λ (p : List Span × Option ℕ). KnownBefore (MayOn cs q) 0 p.0 p.1) (sym none) (record { apart = omega arith; begun_before = tt; exact = λ other below. absurd (omega arith) });
    left = as_it_was refl refl;
  }

  module _ (names numbers : List ℕ) (day : ℕ) (spans : SpansSoFar) (names₁ numbers₁ : List ℕ) (along : Along cs q names numbers (Some day) spans names₁ numbers₁) where
    -- a day was asked on, and the next change is known
    pub goes_along : day < 2 ^ 32 → (next may_to : Option ℕ) → NextChange day may_to next cs → (names₂ numbers₂ : List ℕ) (spans' : SpansSoFar) →
        AskedOn cs q day names₁ numbers₁ names₂ numbers₂ spans spans' (Ok may_to) → Along cs q names numbers next spans' names₂ numbers₂
    goes_along small next may_to change names₂ numbers₂ spans' (may, goes, filled) =
        let s = stretch day small may_to next may change in
        let stepped = step (MayOn cs q) day (until next) s.later s.same (is_some may_to) (vec_items spans.done) spans.since along.known s.decides in
        record {
          known = subst (λ (p : List Span × Option ℕ). KnownBefore (MayOn cs q) (until next) p.0 p.1) (sym goes) stepped;
          left = by_finding day names₁ numbers₁ filled;
        }

    untouched_left : (names₂ numbers₂ : List ℕ) → Untouched cs (asked_on day q) names₁ numbers₁ names₂ numbers₂ → Left cs q names numbers names₂ numbers₂
    untouched_left names₂ numbers₂ same =
        subst (λ xs. Left cs q names numbers xs numbers₂) (sym same.names_same) (subst (λ xs. Left cs q names numbers names₁ xs) (sym same.numbers_same) along.left)

    -- where the day could not be asked on
    pub unasked_left : (e : Unfound) (names₂ numbers₂ : List ℕ) (spans' : SpansSoFar) → AskedOn cs q day names₁ numbers₁ names₂ numbers₂ spans spans' (Err e) → Left cs q names numbers names₂ numbers₂
    unasked_left NoMemory names₂ numbers₂ spans' (inl filled) = by_finding day names₁ numbers₁ filled
    unasked_left NoMemory names₂ numbers₂ spans' (inr same) = untouched_left names₂ numbers₂ same
    unasked_left OutOfRange names₂ numbers₂ spans' (out, same) = untouched_left names₂ numbers₂ same
    unasked_left WrongSize names₂ numbers₂ spans' (wrong, same) = untouched_left names₂ numbers₂ same
    unasked_left NoSheet names₂ numbers₂ spans' asked = absurd asked
    unasked_left (TooShort needed) names₂ numbers₂ spans' asked = absurd asked
    unasked_left Malformed names₂ numbers₂ spans' asked = absurd asked

  -- at the end of days
  pub all_along : (names numbers names' numbers' : List ℕ) (spans : SpansSoFar) → Along cs q names numbers None spans names' numbers' →
      (last : ℕ) → last + 1 ≡ 2 ^ 32 → SpansOf (MayOn cs q) (ended (vec_items spans.done) spans.since last)
  all_along names numbers names' numbers' spans along last is = finish (MayOn cs q) last (vec_items spans.done) spans.since is along.known
