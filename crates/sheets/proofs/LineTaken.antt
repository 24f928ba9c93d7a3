-- What reading the parts of a line says of its check. Assumes nothing.
use Rattle.certificates.specs.Certificates.{subject_of}
use Rattle.certificates.specs.declared.access.Access.{Access}
use Rattle.std.proofs.Common.{◌≡◌, ℕ, zero, suc, ◌<◌, ◌≤◌, ltb, List, [], ◌∷◌, length, take, Some, None, sym, refl, ap, ◌∙◌}
use Rattle.certificates.specs.declared.Certificate.{Certificate}
use Rattle.sheets.proofs.Shown.{impossible}
use Rattle.sheets.specs.Checking.{judged, followed, housed, numbered, line_checked}
use Rattle.sheets.specs.Facts.{Fact}
use Rattle.sheets.specs.Sheets.{certificate_at}
use Rattle.std.proofs.lemmas.Bool.{cond-true, lt-ltb}
use Rattle.wire.proofs.Formed.{places_front}
use Rattle.wire.specs.Numbers.{Taken, take_number, take_numbers, places, keep_six, and_then}
use Rattle.wire.specs.declared.numbers.Six.{Six}

-- as many numbers are taken as were asked for
taken_many : (k : ℕ) (s numbers rest : List ℕ) → take_numbers k s ≡ Some (numbers, rest) → length numbers ≡ k
unfolding take_numbers
taken_many zero s numbers rest e =
    let same : ◌≡◌ {A = List ℕ × List ℕ} ([], s) (numbers, rest) = cc in
    sym (ap (λ (p : List ℕ × List ℕ). length p.0) same)
taken_many (suc k) s numbers rest e = first (take_number 2 s) (λ r ns behind. taken_many k r ns behind) e
  where
    later : (n : ℕ) (t : Taken (List ℕ)) → ((ns r : List ℕ) → t ≡ Some (ns, r) → length ns ≡ k) →
        and_then t (λ ns behind. Some (n ∷ ns, behind)) ≡ Some (numbers, rest) → length numbers ≡ suc k
    later n None ih e' = impossible (cc)
    later n (Some p) ih e' =
        let same : ◌≡◌ {A = List ℕ × List ℕ} (n ∷ p.0, p.1) (numbers, rest) = cc in
        sym (ap (λ (q : List ℕ × List ℕ). length q.0) same) ∙ ap suc (ih p.0 p.1 refl)

    first : (t : Taken ℕ) → ((r ns behind : List ℕ) → take_numbers k r ≡ Some (ns, behind) → length ns ≡ k) →
        and_then t (λ n r. and_then (take_numbers k r) λ ns behind. Some (n ∷ ns, behind)) ≡ Some (numbers, rest) → length numbers ≡ suc k
    first None ih e' = impossible (cc)
    first (Some p) ih e' = later p.0 (take_numbers k p.1) (ih p.1) e'

-- a line whose certificate and houses were read is still to be judged
module _ (cs : List Certificate) (access : Access) (line : ℕ) (facts : List Fact) (s : List ℕ) (number : ℕ) (behind : List ℕ) (c : Certificate) (six : Six) (rest : List ℕ) where
  pub line_taken : Some (number, behind) ≡ take_number 2 s → number < length cs → c ≡ certificate_at cs number → (subject_of c.statement).count ≤ 6 →
      Some (six, rest) ≡ and_then (take_numbers (subject_of c.statement).count behind) keep_six →
      line_checked cs access line facts s ≡ followed rest (judged line facts c (take (subject_of c.statement).count six.numbers) access)
  line_taken read below is few houses =
      ap (numbered cs access line facts) (sym read)
      ∙ (cond-true (ltb number (length cs)) _ _ (lt-ltb number (length cs) below)
      ∙ (ap (λ (d : Certificate). housed cs access line facts number (take_numbers (subject_of d.statement).count behind)) (sym is)
      ∙ judging (take_numbers (subject_of c.statement).count behind) refl houses))
    where
      judging : (t : Taken (List ℕ)) → take_numbers (subject_of c.statement).count behind ≡ t → Some (six, rest) ≡ and_then t keep_six →
          housed cs access line facts number t ≡ followed rest (judged line facts c (take (subject_of c.statement).count six.numbers) access)
      judging None taken e = impossible (cc)
      judging (Some p) taken e =
          let same : ◌≡◌ {A = Six × List ℕ} (six, rest) (record { numbers = places p.0 }, p.1) = cc in
          let many : length p.0 ≡ (subject_of c.statement).count = taken_many (subject_of c.statement).count behind p.0 p.1 taken in
          let front : take (subject_of c.statement).count six.numbers ≡ p.0 =
          ap (λ (q : Six × List ℕ). take (subject_of c.statement).count q.0.numbers) same
          ∙ (ap (λ k. take k (places p.0)) (sym many) ∙ places_front p.0 (rw many few)) in
          rw (ap (λ (q : Six × List ℕ). q.1) same, front, is)
