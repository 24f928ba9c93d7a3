-- A line judged by the facts in memory is judged by the facts that are shown. Assumes nothing.
use Rattle.certificates.specs.declared.access.Access.{Access}
use Rattle.std.proofs.Common.{◌≡◌, ℕ, suc, ◌+◌, ◌<◌, Bool, true, false, cond, leb, List, [], ◌∷◌, length, Some, None, Ok, Err, Option, Result, sym, refl, ap, ◌∙◌, add-zero, zero-add, arith}
use Rattle.certificates.proofs.Ranges.{ranged}
use Rattle.certificates.specs.Certificates.{names_of, in_range, valid, subject_of}
use Rattle.certificates.specs.Rights.{member}
use Rattle.certificates.specs.declared.Certificate.{Certificate}
use Rattle.certificates.specs.declared.Statement.{Statement}
use Rattle.certificates.specs.declared.Statement.TheVariants.{Name, Rights}
use Rattle.facts.specs.Table.{bit_at}
use Rattle.sheets.proofs.Remembering.{name_shown, right_shown}
use Rattle.sheets.proofs.Shown.{impossible}
use Rattle.sheets.specs.Checking.{known_houses, unshown, stepped, walked, allowed, judged}
use Rattle.sheets.specs.Facts.{Fact, NameMeans, shown}
use Rattle.sheets.specs.Judging.{permits, step_fault, afterwards, judged_by}
use Rattle.sheets.specs.Memory.{Remembers, remembered}
use Rattle.sheets.specs.Reading.{houses_of, walk_by, walked_by}
use Rattle.sheets.specs.Sheets.{reached, fact_of}
use Rattle.sheets.specs.declared.line.Line.{Line}
use Rattle.std.proofs.lemmas.Bool.{and_parts, leb-true}
use Rattle.std.specs.Option.{option_map}
use Rattle.wire.specs.declared.faults.Fault.{Fault}
use Rattle.wire.specs.declared.faults.Fault.TheVariants.{LineOutOfRange, NotValid, NotGiven, IssuerNotShown, StepNotShown}

-- what the walk gives where the first step that is not shown is known
abbrev told : ℕ → ℕ → Option ℕ → Result ℕ ℕ
told i last None = Ok last
told i last (Some k) = Err (i + k)

told_next : (i last : ℕ) (first : Option ℕ) → told (suc i) last first ≡ told i last (option_map suc first)
told_next i last None = refl
told_next i last (Some k) = ap (λ (n : ℕ). Err n) (omega arith)

module _ (test : ℕ → ℕ → ℕ → Bool) (facts : List Fact) (same : (k n m : ℕ) → m < 1024 → shown (NameMeans k n m) facts ≡ test k n m) where
  -- a walk by a test that agrees with the facts
  walk_told : (i house : ℕ) (names houses : List ℕ) → known_houses houses ≡ true → length names ≡ length houses →
      walk_by test i house names houses ≡ told i (reached house houses) (unshown facts house names houses)
  unfolding walk_by unshown reached known_houses
  walk_told i house [] [] known many = refl
  walk_told i house [] (h ∷ houses) known many = impossible (omega arith)
  walk_told i house (n ∷ names) [] known many = impossible (omega arith)
  walk_told i house (n ∷ names) (h ∷ houses) known many =
      let (small, rest) = and_parts (leb h 1023) (known_houses houses) known in
      rw (same house n h (omega (arith, leb-true h 1023 small)))
      (by_step (test house n h) (walk_told (suc i) h names houses rest (omega arith)))
    where
      by_step : (b : Bool) → walk_by test (suc i) h names houses ≡ told (suc i) (reached h houses) (unshown facts h names houses) →
          cond b (walk_by test (suc i) h names houses) (Err i) ≡ told i (reached h houses) (cond b (option_map suc (unshown facts h names houses)) (Some 0))
      by_step true behind = behind ∙ told_next i (reached h houses) (unshown facts h names houses)
      by_step false behind = ap (λ (n : ℕ). Err n) (sym (add-zero i))

-- what a line shows of the last house
abbrev pub showing : Certificate → Result ℕ Fault → Result Fact Fault
showing c (Ok last) = Ok (fact_of c last)
showing c (Err fault) = Err fault

module _ {cs : List Certificate} {facts : List Fact} {names rights : List ℕ} (r : Remembers cs facts names rights) (line : ℕ) (access : Access) (l : Line)
    (sound : in_range l.certificate.now ≡ true) (many : length (names_of (subject_of l.certificate.now.statement)) ≡ length (houses_of l)) where
  abbrev c : Certificate
  c = l.certificate.now

  abbrev test : ℕ → ℕ → ℕ → Bool
  test = remembered cs names

  steps_judged : (first : Option ℕ) → stepped line facts c (houses_of l) first ≡ showing c (step_fault line (told 0 (reached (subject_of c.statement).house (houses_of l)) first))
  steps_judged None = refl
  steps_judged (Some k) = ap (λ (n : ℕ). Err (StepNotShown line n)) (sym (zero-add k))

  walk_judged : known_houses (houses_of l) ≡ true → walked line facts c (houses_of l) ≡ showing c (step_fault line (walked_by test l))
  walk_judged known =
      steps_judged (unshown facts (subject_of c.statement).house (names_of (subject_of c.statement)) (houses_of l))
      ∙ ap (λ w. showing c (step_fault line w))
      (sym (walk_told test facts (λ k n m small. name_shown r k n m small) 0 (subject_of c.statement).house (names_of (subject_of c.statement)) (houses_of l) known many))

  permit_judged : known_houses (houses_of l) ≡ true → (s : Statement) →
      allowed line facts c (houses_of l) access s ≡ showing c (afterwards (permits access (bit_at rights 0 c.issuer) line s) (step_fault line (walked_by test l)))
  permit_judged known (Name who name) = walk_judged known
  permit_judged known (Rights who set d) =
      rw (right_shown r true c.issuer (ranged c sound).issuer_known, walk_judged known) (by_tests (member access.right set) (bit_at rights 0 c.issuer))
    where
      by_tests : (given able : Bool) →
          cond given (cond able (showing c (step_fault line (walked_by test l))) (Err (IssuerNotShown line))) (Err (NotGiven line))
          ≡ showing c (afterwards (cond given (cond able (Ok tt) (Err (IssuerNotShown line))) (Err (NotGiven line))) (step_fault line (walked_by test l)))
      by_tests true true = refl
      by_tests true false = refl
      by_tests false able = refl

  pub judged_by_lem : judged line facts c (houses_of l) access ≡ showing c (judged_by test (bit_at rights 0 c.issuer) line access l)
  judged_by_lem = by_known (known_houses (houses_of l)) refl
    where
      by_valid : (v : Bool) → known_houses (houses_of l) ≡ true →
          cond v (allowed line facts c (houses_of l) access c.statement) (Err (NotValid line))
          ≡ showing c (cond v (afterwards (permits access (bit_at rights 0 c.issuer) line c.statement) (step_fault line (walked_by test l))) (Err (NotValid line)))
      by_valid true known = permit_judged known c.statement
      by_valid false known = refl

      by_known : (b : Bool) → known_houses (houses_of l) ≡ b →
          cond b (cond (valid access.day c) (allowed line facts c (houses_of l) access c.statement) (Err (NotValid line))) (Err (LineOutOfRange line))
          ≡ showing c (cond b (cond (valid access.day c) (afterwards (permits access (bit_at rights 0 c.issuer) line c.statement) (step_fault line (walked_by test l))) (Err (NotValid line))) (Err (LineOutOfRange line)))
      by_known true known = by_valid (valid access.day c) known
      by_known false known = refl
