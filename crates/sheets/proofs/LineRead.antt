-- One line is checked exactly: it is good where the bytes begin with those of a good line that can be written. Assumes nothing.
use Rattle.certificates.specs.declared.access.Access.{Access}
use Rattle.std.proofs.Common.{◌≡◌, ℕ, ◌^◌, ◌<◌, ◌≤◌, ltb, List, [], ◌∷◌, ◌++◌, length, Some, None, Ok, Err, Result, sym, refl, ap, ◌∙◌, append_assoc, arith}
use Rattle.certificates.specs.Certificates.{WellFormed, subject_of}
use Rattle.certificates.specs.declared.Certificate.{Certificate}
use Rattle.sheets.proofs.Formed.{names_at}
use Rattle.sheets.proofs.Judged.{passed, judged_good, good_judged}
use Rattle.sheets.proofs.Lines.{Good}
use Rattle.sheets.proofs.Shown.{impossible}
use Rattle.sheets.proofs.Walks.{known_all}
use Rattle.sheets.specs.Bytes.{line_bytes, Writable}
use Rattle.sheets.specs.Checking.{judged, followed, housed, numbered, line_checked}
use Rattle.sheets.specs.Facts.{Fact}
use Rattle.sheets.specs.Sheets.{Line, certificate_at, shows}
use Rattle.std.proofs.ByRecursion.{All-weaker}
use Rattle.std.proofs.lemmas.Bool.{ltb-true, lt-ltb}
use Rattle.std.specs.List.{flat_map, AllByRecursion}
use Rattle.wire.proofs.Numerals.{number_part, names_part}
use Rattle.wire.specs.Numbers.{bytes, Taken, take_number, take_numbers}
use Rattle.wire.specs.declared.faults.Fault.{Fault}
use Rattle.wire.specs.declared.faults.Fault.TheVariants.{LineUnknown}

-- each number is a byte
abbrev pub Bytes : List ℕ → Type 0
Bytes s = AllByRecursion (λ b. b < 256) s

pub bytes_rest : (w rest : List ℕ) → Bytes (w ++ rest) → Bytes rest
bytes_rest [] rest small = small
bytes_rest (b ∷ w) rest small = bytes_rest w rest small.1

number_taken : (s : List ℕ) → Bytes s → (n : ℕ) (rest : List ℕ) → take_number 2 s ≡ Some (n, rest) → s ≡ bytes 2 n ++ rest
number_taken s small n rest e = let (m, fits, is, w) = (number_part 2).sound s small n rest e in rw is w

houses_taken : (k : ℕ) (s : List ℕ) → Bytes s → (houses rest : List ℕ) → take_numbers k s ≡ Some (houses, rest) →
    (length houses ≡ k) × (s ≡ flat_map (bytes 2) houses ++ rest)
houses_taken k s small houses rest e = let (same, fits, is, w) = (names_part k).sound s small houses rest e in rw is (fits.0, w)

module _ (cs : List Certificate) (access : Access) where
  -- a good line that shows the fact and stands in front of the rest
  pub record GoodLine (facts : List Fact) (s : List ℕ) (fact : Fact) (rest : List ℕ) : Type 0 where
    pub line : Line
    pub writable : Writable cs line
    pub is_good : Good cs access facts line
    pub is_fact : fact ≡ shows cs line
    pub is_bytes : s ≡ line_bytes line ++ rest

  module _ (line : ℕ) (facts : List Fact) where
    followed_ok : (rest : List ℕ) (r : Result Fact Fault) (p : Fact × List ℕ) → followed rest r ≡ Ok p → (r ≡ Ok p.0) × (p.1 ≡ rest)
    followed_ok rest (Ok fact) p e =
        let same : (fact, rest) ≡ p = cc in
        (ap (λ q. Ok q.0) same, sym (ap (λ q. q.1) same))
    followed_ok rest (Err fault) p e = impossible (cc)

    housed_ok : (number : ℕ) (t : Taken (List ℕ)) (p : Fact × List ℕ) → housed cs access line facts number t ≡ Ok p →
        (houses : List ℕ) × (t ≡ Some (houses, p.1)) × (judged line facts (certificate_at cs number) houses access ≡ Ok p.0)
    housed_ok number None p e = impossible (cc)
    housed_ok number (Some q) p e =
        let (j, same) = followed_ok q.1 (judged line facts (certificate_at cs number) q.0 access) p e in
        (q.0, rw same, j)

    numbered_ok : (t : Taken ℕ) (p : Fact × List ℕ) → numbered cs access line facts t ≡ Ok p →
        (q : ℕ × List ℕ) × (t ≡ Some q) × (q.0 < length cs)
        × (housed cs access line facts q.0 (take_numbers (subject_of (certificate_at cs q.0).statement).count q.1) ≡ Ok p)
    numbered_ok None p e = impossible (cc)
    numbered_ok (Some q) p e =
        let (below, h) = passed (ltb q.0 (length cs)) _ (LineUnknown line) p e in
        (q, refl, ltb-true q.0 (length cs) below, h)

    pub line_read : AllByRecursion WellFormed cs → (s : List ℕ) → Bytes s → (p : Fact × List ℕ) → line_checked cs access line facts s ≡ Ok p →
        GoodLine facts s p.0 p.1
    line_read formed s small p e =
        let (q, e₁, below, h) = numbered_ok (take_number 2 s) p e in
        let w₁ = number_taken s small q.0 q.1 e₁ in
        let c = certificate_at cs q.0 in
        let (houses, e₂, j) = housed_ok q.0 (take_numbers (subject_of c.statement).count q.1) p h in
        let (many, w₂) = houses_taken (subject_of c.statement).count q.1 (bytes_rest (bytes 2 q.0) q.1 (rw w₁ at small)) houses p.1 e₂ in
        let (known, g, is) = judged_good line facts c houses access p.0 (many ∙ sym (names_at cs formed q.0 below)) j in
        record {
          line = record { certificate = q.0; houses = houses };
          writable = record { number = below; many = many; known = known };
          is_good = g;
          is_fact = is;
          is_bytes = w₁ ∙ (ap (λ t. bytes 2 q.0 ++ t) w₂ ∙ sym (append_assoc (bytes 2 q.0) (flat_map (bytes 2) houses) p.1));
        }

    pub read_line : length cs ≤ 1024 → (l : Line) → Writable cs l → Good cs access facts l → (rest : List ℕ) →
        line_checked cs access line facts (line_bytes l ++ rest) ≡ Ok (shows cs l, rest)
    read_line few l w g rest =
        let n = l.certificate in
        let c = certificate_at cs n in
        let behind = flat_map (bytes 2) l.houses ++ rest in
        let small : n < 256 ^ 2 = omega (arith, w.number) in
        let first : take_number 2 (line_bytes l ++ rest) ≡ Some (n, behind) =
        rw (append_assoc (bytes 2 n) (flat_map (bytes 2) l.houses) rest) ((number_part 2).complete n small behind) in
        let fit : AllByRecursion (λ h. h < 2 ^ 16) l.houses = All-weaker (λ h. h ≤ 1023) (λ h. h < 2 ^ 16) (λ h known. omega arith) l.houses (known_all l.houses w.known) in
        let second : take_numbers (subject_of c.statement).count behind ≡ Some (l.houses, rest) = (names_part (subject_of c.statement).count).complete l.houses (w.many, fit) rest in
        ap (numbered cs access line facts) first ∙ (rw (lt-ltb n (length cs) w.number)
        (ap (housed cs access line facts n) second ∙ ap (followed rest) (good_judged line facts c l.houses access w.known g)))
