-- Going through the houses and steps of a line: what is left gives the same as the whole. Assumes nothing.
use Rattle.std.proofs.Common.{◌≡◌, ℕ, suc, ◌+◌, ◌≤◌, Bool, true, false, cond, ◌&&◌, leb, ◌⊎◌, List, [], ◌∷◌, length, Some, None, Ok, Err, Option, sym, refl, ap, ◌∙◌, ap₂, add-one, ⊎_elim}
use Rattle.certificates.specs.Certificates.{names_of, subject_of}
use Rattle.sheets.proofs.Shown.{impossible}
use Rattle.sheets.specs.Checking.{known_houses}
use Rattle.sheets.specs.Reading.{houses_of, walk_by}
use Rattle.sheets.specs.declared.line.Line.{Line}
use Rattle.std.proofs.lemmas.List.{length-take-le}
use Rattle.std.specs.List.{list_all}

-- there is a house for each name
pub paired : (l : Line) → length (names_of (subject_of l.certificate.now.statement)) ≡ (subject_of l.certificate.now.statement).count →
    (subject_of l.certificate.now.statement).count ≤ length l.houses.numbers → length (names_of (subject_of l.certificate.now.statement)) ≡ length (houses_of l)
paired l named housed = named ∙ sym (length-take-le (subject_of l.certificate.now.statement).count l.houses.numbers housed)

known_houses_all : (houses : List ℕ) → known_houses houses ≡ list_all (λ h. leb h 1023) houses
unfolding known_houses
known_houses_all [] = refl
known_houses_all (h ∷ houses) = ap (λ b. leb h 1023 && b) (known_houses_all houses)

pub known_each : (houses : List ℕ) (known : Bool) → known ≡ list_all (λ h. leb h 1023) houses → known ≡ known_houses houses
known_each houses known is = is ∙ sym (known_houses_all houses)

-- the steps from the i-th on, and the first of them
module _ (test : ℕ → ℕ → ℕ → Bool) (i at : ℕ) (names houses : List ℕ) where
  module _ (name house : ℕ) (names' houses' : List ℕ) (more : names ≡ name ∷ names') (further : houses ≡ house ∷ houses') where
    first_step : walk_by test i at names houses ≡ cond (test at name house) (walk_by test (suc i) house names' houses') (Err i)
    unfolding walk_by
    first_step = ap₂ (walk_by test i at) more further

    -- it is shown
    pub step_more : (next : ℕ) → Some next ≡ cond (test at name house) (Some house) None → walk_by test i at names houses ≡ walk_by test (i + 1) next names' houses'
    step_more next is = first_step ∙ go (test at name house) is
      where
        go : (b : Bool) → Some next ≡ cond b (Some house) None → cond b (walk_by test (suc i) house names' houses') (Err i) ≡ walk_by test (i + 1) next names' houses'
        go true same = let reached : house ≡ next = cc in ap₂ (λ n h. walk_by test n h names' houses') (sym (add-one i)) reached
        go false same = impossible (cc)

    -- it is not
    pub step_not : None ≡ cond (test at name house) (Some house) None → walk_by test i at names houses ≡ Err i
    step_not is = first_step ∙ go (test at name house) is
      where
        go : (b : Bool) → ◌≡◌ {A = Option ℕ} None (cond b (Some house) None) → cond b (walk_by test (suc i) house names' houses') (Err i) ≡ Err i
        go true same = impossible (cc)
        go false same = refl

  no_more : (ns : List ℕ) → walk_by test i at ns [] ≡ Ok at
  unfolding walk_by
  no_more [] = refl
  no_more (n ∷ ns) = refl

  -- none is left
  pub steps_all : (names ≡ []) ⊎ (houses ≡ []) → walk_by test i at names houses ≡ Ok at
  unfolding walk_by
  steps_all ended = ⊎_elim (λ is. ap (λ ns. walk_by test i at ns houses) is) (λ is. ap (walk_by test i at names) is ∙ no_more names) ended
