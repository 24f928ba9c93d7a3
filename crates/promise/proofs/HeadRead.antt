-- The head of a request is read exactly. Assumes nothing.
use Rattle.std.proofs.Common.{◌≡◌, ℕ, ◌^◌, ◌<◌, cond, eqb, List, ◌∷◌, ◌++◌, Some, None, sym, refl, ap, ◌∙◌, append_assoc, arith}
use Rattle.promise.specs.Promise.{Bytes}
use Rattle.promise.specs.Requests.{Head, take_asked, take_head}
use Rattle.sheets.proofs.LineRead.{bytes_rest}
use Rattle.wire.proofs.Numerals.{number_part, byte_part}
use Rattle.std.proofs.lemmas.Bool.{eqb-true, eqb-false}
use Rattle.wire.proofs.Parts.{Part, both, turned, told_by, chosen, never}
use Rattle.wire.specs.Numbers.{bytes}

-- the parts of a head behind its kind: a house, a right and how many lines follow
abbrev Values : Type 0
Values = ℕ × (ℕ × ℕ)

abbrev head_of : Values → Head
head_of v = record { house = v.0; right = v.1.0; lines = v.1.1 }

abbrev asked_bytes : Values → List ℕ
asked_bytes v = bytes 2 v.0 ++ (v.1.0 ∷ bytes 4 v.1.1)

abbrev head_bytes : Values → List ℕ
head_bytes v = 4 ∷ asked_bytes v

abbrev Fit : Values → Type 0
Fit v = (v.0 < 256 ^ 2) × ((v.1.0 < 256) × (v.1.1 < 256 ^ 4))

asked_part : Part take_asked head_of asked_bytes Fit
asked_part =
    both _ (number_part 2) λ house. both _ byte_part λ right.
    turned (λ lines. record { house = house; right = right; lines = lines }) (number_part 4)

-- behind the kind of a request its head is read, and behind no other
kind_part : (kind : ℕ) → Part (λ s. cond (eqb kind 4) (take_asked s) None) head_of asked_bytes (λ v. (kind ≡ 4) × Fit v)
kind_part kind =
    chosen (eqb kind 4)
    (λ is. told_by (λ v fit. (v, (eqb-true kind 4 is, fit), refl, refl)) (λ v fit. (v, fit.1, refl, refl)) asked_part)
    (λ other. never (λ v fit. eqb-false kind 4 other fit.0))

head_part : Part take_head head_of head_bytes Fit
head_part = told_by
    (λ p fits. (p.1, fits.1.1, refl, ap (λ kind. kind ∷ asked_bytes p.1) fits.1.0))
    (λ v fit. ((4, v), (omega arith, (refl, fit)), refl, refl))
    (both _ byte_part kind_part)

-- a head as it is written, and what follows
abbrev whole : Head → List ℕ → List ℕ
whole h rest = 4 ∷ (bytes 2 h.house ++ (h.right ∷ (bytes 4 h.lines ++ rest)))

-- a head that was read stands in front as it is written
pub head_written : (d : List ℕ) → Bytes d → (h : Head) (rest : List ℕ) → take_head d ≡ Some (h, rest) → d ≡ whole h rest
head_written d small h rest is =
    let (v, fit, same, w) = head_part.sound d small h rest is in
    w ∙ (ap (λ t. 4 ∷ t) (append_assoc (bytes 2 v.0) (v.1.0 ∷ bytes 4 v.1.1) rest) ∙ ap (λ head. whole head rest) (sym same))

pub lines_bytes : (d : List ℕ) → Bytes d → (h : Head) (rest : List ℕ) → take_head d ≡ Some (h, rest) → Bytes rest
lines_bytes d small h rest is =
    let (v, fit, same, w) = head_part.sound d small h rest is in
    bytes_rest (head_bytes v) rest (rw w at small)

pub head_read : (house right n : ℕ) → house < 1024 → right < 64 → n < 2 ^ 32 → (rest : List ℕ) →
    take_head (4 ∷ (bytes 2 house ++ (right ∷ (bytes 4 n ++ rest)))) ≡ Some (record { house = house; right = right; lines = n }, rest)
head_read house right n known small few rest =
    rw append_assoc at (head_part.complete (house, (right, n)) (omega arith, (omega arith, omega arith)) rest)
