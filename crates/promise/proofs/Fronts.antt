-- A request that is longer than any can be is answered as its front is: with so many bytes a line has a fault, or bytes are left over. Assumes nothing.
use Rattle.certificates.specs.Certificates.{subject_of}
use Rattle.certificates.specs.declared.access.Access.{Access}
use Rattle.std.proofs.Common.{◌≡◌, ℕ, zero, suc, ◌+◌, ◌*◌, ◌<◌, ◌≤◌, Bool, true, false, cond, ◌&&◌, eqb, ltb, leb, ◌⊎◌, List, [], ◌∷◌, ◌++◌, length, take, drop, Some, None, Ok, Err, Result, sym, refl, ap, ◌∙◌, inl, inr, arith}
use Rattle.certificates.specs.declared.Certificate.{Certificate}
use Rattle.promise.specs.Requests.{take_asked, take_head, question_of, longest_request, decided, answer_head, answer}
use Rattle.promise.specs.States.{State}
use Rattle.promise.specs.declared.answers.Answer.{Answer}
use Rattle.promise.specs.declared.answers.Answer.TheVariants.{Refused}
use Rattle.sheets.specs.Bytes.{line_size, longest_line}
use Rattle.sheets.specs.Checking.{judged, followed, housed, numbered, line_checked, Checked, going, lines_checked, concluded}
use Rattle.sheets.specs.Facts.{Fact}
use Rattle.sheets.specs.Sheets.{certificate_at, start}
use Rattle.std.proofs.Math.Nat.{mul_comm, mul-le-mul_left}
use Rattle.std.proofs.lemmas.List.{append-nil, length-append, length-drop, take-append-le, drop-append-le}
use Rattle.std.proofs.lemmas.Bool.{le-leb, leb-true, ltb-true}
use Rattle.std.specs.Int.Digits.{number_from_digits}
use Rattle.wire.specs.Numbers.{Taken, take_number, and_then, take_numbers}
use Rattle.wire.specs.declared.faults.Fault.{Fault}
use Rattle.wire.specs.declared.faults.Fault.TheVariants.{OutOfRange, TooManyLines, LineUnknown}

-- a value is read from the front p by no more than so many bytes, whatever follows
pub record ReadFront {A : Type 0} (read : List ℕ → Taken A) (p : List ℕ) (most : ℕ) : Type 0 where
  pub value : A
  pub left : List ℕ
  pub long : length p ≤ length left + most
  pub is : (more : List ℕ) → read (p ++ more) ≡ Some (value, left ++ more)

number_front : (k : ℕ) (p : List ℕ) → k ≤ length p → ReadFront (take_number k) p k
number_front k p enough = record {
  value = number_from_digits 256 (take k p);
  left = drop k p;
  long = omega (arith, length-drop k p);
  is = λ more.
      let there : k ≤ length (p ++ more) = omega (arith, length-append p more) in
      rw (le-leb k (length (p ++ more)) there, take-append-le k p more enough, drop-append-le k p more enough);
}

numbers_front : (k : ℕ) (p : List ℕ) → 2 * k ≤ length p → ReadFront (take_numbers k) p (2 * k)
unfolding take_numbers
numbers_front zero p enough = record { value = []; left = p; long = omega arith; is = λ more. refl }
numbers_front (suc k) p enough =
    let first = number_front 2 p (omega arith) in
    let second = numbers_front k first.left (omega (arith, first.long)) in
    record {
      value = first.value ∷ second.value;
      left = second.left;
      long = omega (arith, first.long, second.long);
      is = λ more.
          ap (λ (t : Taken ℕ). and_then t λ n rest. and_then (take_numbers k rest) λ numbers behind. Some (n ∷ numbers, behind)) (first.is more)
          ∙ ap (λ (t : Taken (List ℕ)). and_then t λ numbers behind. Some (first.value ∷ numbers, behind)) (second.is more);
    }

asked_front : (p : List ℕ) → 7 ≤ length p → ReadFront take_asked p 7
asked_front p enough =
    let house = number_front 2 p (omega arith) in
    let right = number_front 1 house.left (omega (arith, house.long)) in
    let lines = number_front 4 right.left (omega (arith, house.long, right.long)) in
    record {
      value = record { house = house.value; right = right.value; lines = lines.value };
      left = lines.left;
      long = omega (arith, house.long, right.long, lines.long);
      is = λ more. rw (house.is more, right.is more, lines.is more);
    }

-- no line of a certificate is longer than the longest
size_longest : (cs : List Certificate) (i : ℕ) → i < length cs → line_size (certificate_at cs i) ≤ longest_line cs
unfolding longest_line
size_longest [] i below = let none : ⊥ = omega arith in absurd none
size_longest (c ∷ cs) zero below = omega arith
size_longest (c ∷ cs) (suc i) below = omega (arith, size_longest cs i (omega arith))

module _ (cs : List Certificate) (access : Access) where
  -- what a line of the front gives, whatever follows: a fault, or a fact and what is left of the front
  abbrev LineFront : ℕ → List Fact → List ℕ → Type 0
  LineFront line facts p =
      ((fault : Fault) × ((more : List ℕ) → line_checked cs access line facts (p ++ more) ≡ Err fault))
      ⊎ ((fact : Fact) × (left : List ℕ) × (length p ≤ length left + longest_line cs) × ((more : List ℕ) → line_checked cs access line facts (p ++ more) ≡ Ok (fact, left ++ more)))

  module _ (line : ℕ) (facts : List Fact) (p : List ℕ) (first : ReadFront (take_number 2) p 2) where
    abbrev named : Certificate
    named = certificate_at cs first.value

    judged_front : ltb first.value (length cs) ≡ true → (second : ReadFront (take_numbers (subject_of named.statement).count) first.left (2 * (subject_of named.statement).count)) →
        line_size named ≤ longest_line cs → (r : Result Fact Fault) → judged line facts named second.value access ≡ r → LineFront line facts p
    judged_front below second fits r is = by_verdict r (λ more.
        ap (numbered cs access line facts) (first.is more)
        ∙ rw below (ap (housed cs access line facts first.value) (second.is more) ∙ ap (followed (second.left ++ more)) is))
      where
        by_verdict : (v : Result Fact Fault) → ((more : List ℕ) → line_checked cs access line facts (p ++ more) ≡ followed (second.left ++ more) v) → LineFront line facts p
        by_verdict (Ok fact) gives = inr (fact, second.left, omega (arith, first.long, second.long), gives)
        by_verdict (Err fault) gives = inl (fault, gives)

    numbered_front : (t : Bool) → ltb first.value (length cs) ≡ t → longest_line cs ≤ length p → LineFront line facts p
    numbered_front false past enough = inl (LineUnknown line, λ more. ap (numbered cs access line facts) (first.is more) ∙ rw past)
    numbered_front true below enough =
        let fits = size_longest cs first.value (ltb-true first.value (length cs) below) in
        judged_front below (numbers_front (subject_of named.statement).count first.left (omega (arith, first.long, fits))) fits _ refl

  -- a line's number has two bytes, and a line that can be read no more than the longest has
  line_front : (line : ℕ) (facts : List Fact) (p : List ℕ) → 2 ≤ length p → longest_line cs ≤ length p → LineFront line facts p
  line_front line facts p some enough = numbered_front line facts p (number_front 2 p some) _ refl enough

product_of_one_more : (a n : ℕ) → a * suc n ≡ a * n + a
product_of_one_more a n = omega arith

product_no_larger : (a m n : ℕ) → m ≤ n → a * m ≤ n * a
product_no_larger a m n less = rw (mul_comm n a) (mul-le-mul_left a less)

-- so many lines of a front that is longer than any such lines: what follows it changes nothing
module _ (cs : List Certificate) (access : Access) (house : ℕ) where
  abbrev ending : Checked → Result (Unit {0}) Fault
  ending done = concluded house done.0 done.1

  lines_front : (count line : ℕ) (facts : List Fact) (p : List ℕ) → (0 < count → 2 ≤ longest_line cs) → longest_line cs * count < length p → (more also : List ℕ) →
      ending (lines_checked cs access count line facts (p ++ more)) ≡ ending (lines_checked cs access count line facts (p ++ also))
  unfolding lines_checked
  lines_front zero line facts [] some long more also = let none : ⊥ = omega arith in absurd none
  lines_front zero line facts (b ∷ p) some long more also = refl
  lines_front (suc count) line facts p some long more also =
      let two = some (omega arith) in
      let one = product_of_one_more (longest_line cs) count in
      go (λ facts p. lines_front count (suc line) facts p (λ _. two)) (line_front cs access line facts p (omega (arith, two, one, long)) (omega (arith, one, long)))
    where
      next : Fact → List ℕ → Checked
      next fact rest = lines_checked cs access count (suc line) (fact ∷ facts) rest

      go : ((facts : List Fact) (p : List ℕ) → longest_line cs * count < length p → (more also : List ℕ) →
          ending (lines_checked cs access count (suc line) facts (p ++ more)) ≡ ending (lines_checked cs access count (suc line) facts (p ++ also))) →
          LineFront cs access line facts p →
          ending (going facts next (line_checked cs access line facts (p ++ more))) ≡ ending (going facts next (line_checked cs access line facts (p ++ also)))
      go behind (inl (fault, is)) = rw (is more, is also)
      go behind (inr (fact, left, less, is)) = rw (is more, is also) (behind (fact ∷ facts) left (omega (arith, less, product_of_one_more (longest_line cs) count, long)) more also)

same_if : (t : Bool) (x y z : Answer) → (t ≡ true → x ≡ y) → cond t x z ≡ cond t y z
same_if true x y z same = same refl
same_if false x y z same = refl

-- there are lines only where there are certificates, and each of these has a number of two bytes
two_at_least : (cs : List Certificate) (lines : ℕ) → lines ≤ length cs * 1024 → 0 < lines → 2 ≤ longest_line cs
unfolding longest_line
two_at_least [] lines few some = let none : ⊥ = omega arith in absurd none
two_at_least (c ∷ cs) lines few some = omega arith

-- the head of a request takes 8 bytes, and its lines no more than the longest for each
pub front_answered : (g : State) (s more : List ℕ) → longest_request g.certificates < length s → answer g (s ++ more) ≡ answer g s
front_answered g s more long =
    let cs = g.certificates in
    let kind = number_front 1 s (omega arith) in
    let head = asked_front kind.left (omega (arith, kind.long)) in
    let h = head.value in
    let same : answer_head g (Some (h, head.left ++ more)) ≡ answer_head g (Some (h, head.left ++ []))
    = ap (λ (a : Answer). cond (leb h.house 1023 && leb h.right 63) a (Refused OutOfRange))
    (same_if (leb h.lines (length cs * 1024)) _ _ (Refused TooManyLines) (λ short.
    let few = leb-true h.lines (length cs * 1024) short in
    ap decided (lines_front cs (question_of g.day g.owner h).access h.house h.lines 0 (start g.owner) head.left (two_at_least cs h.lines few)
    (omega (arith, product_no_larger (longest_line cs) h.lines (length cs * 1024) few, kind.long, head.long, long)) more []))) in
    let asked : (t : Bool) → answer_head g (cond t (take_asked (kind.left ++ more)) None) ≡ answer_head g (cond t (take_asked (kind.left ++ [])) None)
    = λ t. elim t as (λ (v : Bool). answer_head g (cond v (take_asked (kind.left ++ more)) None) ≡ answer_head g (cond v (take_asked (kind.left ++ [])) None)) [
      | true ↦ ap (answer_head g) (head.is more) ∙ (same ∙ ap (answer_head g) (sym (head.is [])))
      | false ↦ refl
    ] in
    let read : (others : List ℕ) → take_head (s ++ others) ≡ cond (eqb kind.value 4) (take_asked (kind.left ++ others)) None
    = λ others. ap (λ (t : Taken ℕ). and_then t λ k rest. cond (eqb k 4) (take_asked rest) None) (kind.is others) in
    ap (answer_head g) (read more) ∙ (asked (eqb kind.value 4) ∙ (ap (answer_head g) (sym (read [])) ∙ ap (answer g) (append-nil s)))
