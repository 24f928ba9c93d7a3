-- How many lines are marked, and how many bytes lines take. Assumes nothing.
use Rattle.certificates.specs.Certificates.{subject_of}
use Rattle.std.proofs.Common.{◌≡◌, ℕ, ◌+◌, ◌*◌, ◌≤◌, Bool, true, false, cond, List, [], ◌∷◌, length, take, sym, refl, ap, ◌∙◌, arith}
use Rattle.certificates.specs.declared.Certificate.{Certificate}
use Rattle.finding_keeping.specs.Marks.{picked}
use Rattle.registry.specs.Numbered.{never, certificate_at}
use Rattle.sheets.specs.Bytes.{line_bytes}
use Rattle.std.proofs.lemmas.List.{get_or_past, length-append}
use Rattle.std.proofs.lemmas.List.Sums.{sum_by-cons}
use Rattle.std.specs.List.{flat_map, count_by}
use Rattle.finding_turns.specs.Found.{line_of}
use Rattle.finding_turns.specs.declared.found.Found.{Found}
use Rattle.wire.proofs.Longest.{names_length}
use Rattle.wire.specs.Numbers.{bytes}

-- as many are picked as are marked
picked_count : {X : Type 0} (marks : List Bool) (xs : List X) → length xs ≡ length marks → length (picked marks xs) ≡ count_by (λ mark. mark) marks
unfolding picked
picked_count [] xs many = refl
picked_count (mark ∷ marks) [] many = let none : ⊥ = omega (arith, many) in absurd none
picked_count (true ∷ marks) (x ∷ xs) many = omega (arith, sum_by-cons (λ mark. cond mark 1 0) true marks, picked_count marks xs (omega (arith, many)))
picked_count (false ∷ marks) (x ∷ xs) many = omega (arith, sum_by-cons (λ mark. cond mark 1 0) false marks, picked_count marks xs (omega (arith, many)))

pub picked_many : {X : Type 0} (marks : List Bool) (xs : List X) (n : ℕ) → n ≡ count_by (λ mark. mark) marks → length xs ≡ length marks → n ≡ length (picked marks xs)
picked_many marks xs n is many = is ∙ sym (picked_count marks xs many)

-- a number has two bytes
pub two_bytes : (n : ℕ) → length (bytes 2 n) ≡ 2
unfolding bytes
two_bytes n = refl

module _ (cs : List Certificate) where
  -- a certificate that is not there has no names
  pub no_steps : (f : Found) → length cs ≤ f.certificate → [] ≡ (line_of cs f).houses
  no_steps f past = ap (λ (c : Certificate). take (subject_of c.statement).count f.steps.numbers) (sym (get_or_past cs f.certificate never past))

  -- as many of the steps count as the subject has names
  pub front_steps : (f : Found) (c : Certificate) → c ≡ certificate_at cs f.certificate → take (subject_of c.statement).count f.steps.numbers ≡ (line_of cs f).houses
  front_steps f c is = ap (λ (d : Certificate). take (subject_of d.statement).count f.steps.numbers) is

  -- a line's bytes, where these are its steps
  pub line_length : (f : Found) (steps : List ℕ) → steps ≡ (line_of cs f).houses → 2 + 2 * length steps ≡ length (line_bytes (line_of cs f))
  line_length f steps is =
      let houses = (line_of cs f).houses in
      omega (arith, ap length is, length-append (bytes 2 f.certificate) (flat_map (bytes 2) houses), two_bytes f.certificate, names_length houses)
