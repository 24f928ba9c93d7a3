-- Lines one after the other: what is left to check gives the same as the whole. Assumes nothing.
use Rattle.std.proofs.Common.{◌≡◌, ℕ, suc, ◌+◌, ◌-◌, ◌<◌, ◌≤◌, List, ◌∷◌, Ok, Err, refl, ap, ◌∙◌, add-one, arith}
use Rattle.certificates.specs.declared.Certificate.{Certificate}
use Rattle.sheets.specs.Checking.{going, line_checked, lines_checked}
use Rattle.sheets.specs.Facts.{Fact}
use Rattle.sheets.specs.Memory.{Remembers}
use Rattle.sheets.specs.Passing.{LinePassed, LinesPassed}
use Rattle.sheets.specs.declared.checking.Question.{Question}
use Rattle.wire.specs.declared.faults.Fault.{Fault}

module _ (cs : List Certificate) (q : Question) (count : ℕ) (s names rights : List ℕ) where
  -- after some lines: the memory holds the facts so far, and the lines that are left give the same as all
  pub record Progress (facts₀ : List Fact) (line : ℕ) (rest names' rights' : List ℕ) : Type 0 where
    pub facts : List Fact
    pub remembers : Remembers cs facts names' rights'
    pub same : lines_checked cs q.access count 0 facts₀ s ≡ lines_checked cs q.access (count - line) line facts rest

  -- the same, whatever facts the memory held at the start
  abbrev pub SoFar : ℕ → List ℕ → List ℕ → List ℕ → Type 0
  SoFar line rest names' rights' = (facts₀ : List Fact) → Remembers cs facts₀ names rights → Progress facts₀ line rest names' rights'

  pub none_checked : SoFar 0 s names rights
  none_checked facts₀ r = record { facts = facts₀; remembers = r; same = ap (λ n. lines_checked cs q.access n 0 facts₀ s) (omega arith) }

  module _ (line : ℕ) (rest names' rights' : List ℕ) (so : SoFar line rest names' rights') (below : line < count) where
    -- the first of the lines that are left
    first_left : (facts : List Fact) → lines_checked cs q.access (count - line) line facts rest
        ≡ going facts (λ fact behind. lines_checked cs q.access (count - (line + 1)) (line + 1) (fact ∷ facts) behind) (line_checked cs q.access line facts rest)
    unfolding lines_checked
    first_left facts =
        let more : count - line ≡ suc (count - (line + 1)) = omega arith in
        rw (more, add-one line)

    -- a good line is one more
    pub one_checked : (behind names'' rights'' : List ℕ) → LinePassed cs q line rest names' rights' names'' rights'' (Ok behind) → SoFar (line + 1) behind names'' rights''
    one_checked behind names'' rights'' passed facts₀ r =
        let before = so facts₀ r in
        let (fact, is, remembers) = passed before.facts before.remembers in
        record {
          facts = fact ∷ before.facts;
          remembers = remembers;
          same = before.same ∙ (first_left before.facts ∙ ap (going before.facts _) is);
        }

    -- a faulty line is the last
    pub fault_found : (names'' rights'' : List ℕ) (fault : Fault) → LinePassed cs q line rest names' rights' names'' rights'' (Err fault) →
        LinesPassed cs q count s names rights names'' rights'' (Err fault)
    fault_found names'' rights'' fault passed facts₀ r =
        let before = so facts₀ r in
        let (is, kept-names, kept-rights) = passed before.facts before.remembers in
        let end : lines_checked cs q.access count 0 facts₀ s ≡ (before.facts, Err fault) = before.same ∙ (first_left before.facts ∙ ap (going before.facts _) is) in
        rw (end, kept-names, kept-rights) (refl, before.remembers)

  -- all lines are good
  pub all_checked : (line : ℕ) (rest names' rights' : List ℕ) → SoFar line rest names' rights' → count ≤ line → LinesPassed cs q count s names rights names' rights' (Ok rest)
  unfolding lines_checked
  all_checked line rest names' rights' so past facts₀ r =
      let before = so facts₀ r in
      let none : count - line ≡ 0 = omega arith in
      let end : lines_checked cs q.access count 0 facts₀ s ≡ (before.facts, Ok rest) = before.same ∙ rw none in
      rw end (refl, before.remembers)
