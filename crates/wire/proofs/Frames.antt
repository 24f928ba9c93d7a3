-- The reader of a certificate's fields is exact. Assumes nothing.
use Rattle.std.proofs.Common.{◌≡◌, ℕ, ◌^◌, ◌<◌, Bool, true, false, cond, eqb, List, ◌∷◌, ◌++◌, length, Some, sym, refl, ap, ◌∙◌, arith}
use Rattle.certificates.specs.Certificates.{subject_of}
use Rattle.certificates.specs.declared.Certificate.{Certificate}
use Rattle.certificates.specs.declared.Statement.{Statement}
use Rattle.certificates.specs.declared.Statement.TheVariants.{Name, Rights}
use Rattle.certificates.specs.declared.Subject.{Subject}
use Rattle.std.proofs.lemmas.Bool.{eqb-true, eqb-false}
use Rattle.std.specs.List.{flat_map, AllByRecursion}
use Rattle.wire.proofs.Numerals.{number_part, byte_part, names_part}
use Rattle.wire.proofs.Parts.{impossible, Part, both, turned, told_by, chosen, never}
use Rattle.wire.specs.Exact.{fields_bytes, kept_subject, certificate_of, StatementFits, Fits}
use Rattle.wire.specs.Format.{statement_bytes}
use Rattle.wire.specs.Numbers.{bytes, take_number, and_then, places}
use Rattle.wire.specs.Reading.{take_rights, take_stated, take_statement, take_subject, frame}
use Rattle.wire.specs.declared.numbers.Six.{Six}

abbrev tag_of : Statement → ℕ
tag_of (Name who name) = 0
tag_of (Rights who set delegable) = cond delegable 2 1

abbrev body_of : Statement → List ℕ
body_of (Name who name) = bytes 2 name
body_of (Rights who set delegable) = bytes 8 set

tagged : (st : Statement) → tag_of st ∷ body_of st ≡ statement_bytes st
tagged (Name who name) = refl
tagged (Rights who set delegable) = refl

small_tag : (st : Statement) → tag_of st < 256
small_tag (Name who name) = omega arith
small_tag (Rights who set true) = omega arith
small_tag (Rights who set false) = omega arith

-- the tag is the statement's, which fits its bytes and speaks of this subject
abbrev Stated : Subject → ℕ → Statement → Type 0
Stated who tag st = (tag ≡ tag_of st) × (StatementFits st × (subject_of st ≡ who))

module _ (who : Subject) where
  name_part : (tag : ℕ) → tag ≡ 0 → Part (λ s. and_then (take_number 2 s) λ name rest. Some (Name who name, rest)) (λ st. st) body_of (Stated who tag)
  name_part tag is = told_by (λ name fits. (Name who name, (is, (fits, refl)), refl, refl)) back (turned (λ name. Name who name) (number_part 2))
    where
      back : (st : Statement) → Stated who tag st → (name : ℕ) × (name < 256 ^ 2) × (Name who name ≡ st) × (bytes 2 name ≡ body_of st)
      back (Name s name) fits = (name, fits.1.0, ap (λ w. Name w name) (sym fits.1.1), refl)
      back (Rights s set true) fits = impossible (omega arith)
      back (Rights s set false) fits = impossible (omega arith)

  rights_part : (tag : ℕ) (delegable : Bool) → tag ≡ cond delegable 2 1 →
      Part (λ s. take_rights who s delegable) (λ st. st) body_of (Stated who tag)
  rights_part tag delegable is = told_by
      (λ set fits. (Rights who set delegable, (is, (fits, refl)), refl, refl))
      (back delegable is)
      (turned (λ set. Rights who set delegable) (number_part 8))
    where
      back : (delegable : Bool) → tag ≡ cond delegable 2 1 → (st : Statement) → Stated who tag st →
          (set : ℕ) × (set < 256 ^ 8) × (Rights who set delegable ≡ st) × (bytes 8 set ≡ body_of st)
      back true is (Name s name) fits = impossible (omega arith)
      back true is (Rights s set true) fits = (set, fits.1.0, ap (λ w. Rights w set true) (sym fits.1.1), refl)
      back true is (Rights s set false) fits = impossible (omega arith)
      back false is (Name s name) fits = impossible (omega arith)
      back false is (Rights s set true) fits = impossible (omega arith)
      back false is (Rights s set false) fits = (set, fits.1.0, ap (λ w. Rights w set false) (sym fits.1.1), refl)

  stated_part : (tag : ℕ) → Part (take_stated who tag) (λ st. st) body_of (Stated who tag)
  stated_part tag =
      chosen (eqb tag 0) (λ is. name_part tag (eqb-true tag 0 is)) λ not0.
      chosen (eqb tag 1) (λ is. rights_part tag false (eqb-true tag 1 is)) λ not1.
      chosen (eqb tag 2) (λ is. rights_part tag true (eqb-true tag 2 is)) λ not2.
      never (other not0 not1 not2)
    where
      other : eqb tag 0 ≡ false → eqb tag 1 ≡ false → eqb tag 2 ≡ false → (st : Statement) → Stated who tag st → ⊥
      other not0 not1 not2 (Name s name) fits = eqb-false tag 0 not0 fits.0
      other not0 not1 not2 (Rights s set true) fits = eqb-false tag 2 not2 fits.0
      other not0 not1 not2 (Rights s set false) fits = eqb-false tag 1 not1 fits.0

  abbrev Said : Statement → Type 0
  Said st = StatementFits st × (subject_of st ≡ who)

  statement_part : Part (take_statement who) (λ st. st) statement_bytes Said
  statement_part = told_by forth back (both (take_stated who) byte_part stated_part)
    where
      forth : (p : ℕ × Statement) → (p.0 < 256) × Stated who p.0 p.1 →
          (st : Statement) × Said st × (p.1 ≡ st) × (p.0 ∷ body_of p.1 ≡ statement_bytes st)
      forth p fits = (p.1, fits.1.1, refl, ap (λ b. b ∷ body_of p.1) fits.1.0 ∙ tagged p.1)

      back : (st : Statement) → Said st →
          (p : ℕ × Statement) × ((p.0 < 256) × Stated who p.0 p.1) × (p.1 ≡ st) × (p.0 ∷ body_of p.1 ≡ statement_bytes st)
      back st fits = ((tag_of st, st), (small_tag st, (refl, fits)), refl, tagged st)

-- a house and the names that follow it: their bytes, their subject, and when they fit
abbrev named_bytes : ℕ × List ℕ → List ℕ
named_bytes p = bytes 2 p.0 ++ (length p.1 ∷ flat_map (bytes 2) p.1)

abbrev named_of : ℕ × List ℕ → Subject
named_of p = kept_subject p.0 p.1

abbrev NamedFit : ℕ × List ℕ → Type 0
NamedFit p = (p.0 < 2 ^ 16) × ((length p.1 < 2 ^ 8) × AllByRecursion (λ n. n < 2 ^ 16) p.1)

subject_part : Part take_subject named_of named_bytes NamedFit
subject_part = told_by
    (λ p fits. ((p.0, p.1.1), (fits.0, (rw fits.1.1.0 fits.1.0, fits.1.1.1)), rw fits.1.1.0, rw fits.1.1.0))
    (λ p fits. ((p.0, (length p.1, p.1)), (fits.0, (fits.1.0, (refl, fits.1.1))), refl, refl))
    (both _ (number_part 2) λ house. both _ byte_part λ count.
    turned {B = Subject} (λ (six : Six). record { house = house; names = six.numbers; count = count })
    (turned {B = Six} (λ numbers. record { numbers = places numbers }) (names_part count)))

pub frame_part : Part frame certificate_of fields_bytes Fits
frame_part = told_by
    (λ p fits. (
      record { issuer = p.0; first = p.1.0; last = p.1.1.0; house = p.1.1.1.0.0; names = p.1.1.1.0.1; statement = p.1.1.1.1 },
      record {
        issuer_fits = fits.0;
        first_fits = fits.1.0;
        last_fits = fits.1.1.0;
        house_fits = fits.1.1.1.0.0;
        count_fits = fits.1.1.1.0.1.0;
        names_fit = fits.1.1.1.0.1.1;
        statement_fits = fits.1.1.1.1.0;
        speaks_of = fits.1.1.1.1.1;
      },
      refl,
      refl,
    ))
    (λ f fits. (
      (f.issuer, (f.first, (f.last, ((f.house, f.names), f.statement)))),
      (fits.issuer_fits, (fits.first_fits, (fits.last_fits, ((fits.house_fits, (fits.count_fits, fits.names_fit)), (fits.statement_fits, fits.speaks_of))))),
      refl,
      refl,
    ))
    (both _ (number_part 2) λ issuer. both _ (number_part 4) λ first. both _ (number_part 4) λ last. both _ subject_part λ named.
    turned {B = Certificate} (λ st. record { issuer = issuer; first = first; last = last; statement = st }) (statement_part (named_of named)))
