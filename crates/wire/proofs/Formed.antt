-- The fields with values that a certificate may have are those of the well-formed certificates. Assumes nothing.
use Rattle.std.proofs.Common.{◌≡◌, ℕ, ◌+◌, ◌-◌, ◌≤◌, true, ◌&&◌, leb, List, ◌++◌, length, take, drop, replicate, sym, refl, ap, ◌∙◌, ap₂, subst, append_assoc, arith}
use Rattle.certificates.specs.Certificates.{subject_of, subject_in_range, has_some_right, in_range, names_of, Sensible, SubjectFormed, WellFormed}
use Rattle.certificates.specs.declared.Certificate.{Certificate}
use Rattle.certificates.specs.declared.Statement.{Statement}
use Rattle.certificates.specs.declared.Statement.TheVariants.{Name, Rights}
use Rattle.certificates.specs.declared.Subject.{Subject}
use Rattle.std.proofs.lemmas.List.{take-append-drop, take_at, drop_at, length-take-le, length-append, length-replicate, replicate-append-replicate}
use Rattle.std.proofs.lemmas.Bool.{and_parts, and_from, leb-true, le-leb, ltb-true, lt-ltb}
use Rattle.wire.specs.Exact.{Fields, fields_bytes, kept_subject, certificate_of, StatementFits, Fits}
use Rattle.wire.specs.Format.{subject_bytes, statement_bytes, certificate_bytes}
use Rattle.wire.specs.Numbers.{bytes, places}

module _ (names : List ℕ) (few : length names ≤ 6) where
  padded_length : length (names ++ replicate (6 - length names) 0) ≡ 6
  padded_length = simp (length-append, length-replicate) (omega arith)

  -- names that have a place each, with zeros behind them
  padded : places names ≡ names ++ replicate (6 - length names) 0
  padded =
      let all : (6 - length names) + length names ≡ 6 = omega arith in
      let zeros : replicate 6 0 ≡ replicate (6 - length names) 0 ++ replicate (length names) 0
      = ap (λ n. replicate n 0) (sym all) ∙ sym (replicate-append-replicate (6 - length names) (length names) 0) in
      ap (λ xs. take 6 (names ++ xs)) zeros
      ∙ (ap (take 6) (sym (append_assoc names (replicate (6 - length names) 0) (replicate (length names) 0)))
      ∙ take_at (names ++ replicate (6 - length names) 0) (replicate (length names) 0) 6 padded_length)

  places_length : length (places names) ≡ 6
  places_length = ap length padded ∙ padded_length

  pub places_front : take (length names) (places names) ≡ names
  places_front = ap (take (length names)) padded ∙ take_at names (replicate (6 - length names) 0) (length names) refl

  places_behind : drop (length names) (places names) ≡ replicate (6 - length names) 0
  places_behind = ap (drop (length names)) padded ∙ drop_at names (replicate (6 - length names) 0) (length names) refl

sensible_if : (st : Statement) → StatementFits st → has_some_right st ≡ true → Sensible st
sensible_if (Name who n) fits some = fits
sensible_if (Rights who set delegable) fits some = (ltb-true 0 set some, fits)

sensible_fits : (st : Statement) → Sensible st → StatementFits st × (has_some_right st ≡ true)
sensible_fits (Name who n) ok = (ok, refl)
sensible_fits (Rights who set delegable) ok = (ok.1, lt-ltb 0 set ok.0)

-- what `in_range` tests
in_range_lem : (f : Fields) → Fits f → in_range (certificate_of f) ≡ true →
    (f.issuer ≤ 1023) × (f.house ≤ 1023) × (length f.names ≤ 6) × (has_some_right f.statement ≡ true)
in_range_lem f fits ok =
    let (issuer, ok₁) = and_parts (leb f.issuer 1023) (subject_in_range (subject_of f.statement) && has_some_right f.statement) ok in
    let (ranged, some) = and_parts (subject_in_range (subject_of f.statement)) (has_some_right f.statement) ok₁ in
    let (house, count) = and_parts (leb f.house 1023) (leb (length f.names) 6) (sym (ap subject_in_range fits.speaks_of) ∙ ranged) in
    (leb-true f.issuer 1023 issuer, leb-true f.house 1023 house, leb-true (length f.names) 6 count, some)

subject_formed : (f : Fields) → Fits f → f.house ≤ 1023 → length f.names ≤ 6 → SubjectFormed (kept_subject f.house f.names)
subject_formed f fits house few = record {
  house_known = omega arith;
  six_places = places_length f.names few;
  few_names = few;
  names_fit = rw (places_front f.names few) fits.names_fit;
  zero_behind = places_behind f.names few;
}

pub formed : (f : Fields) → Fits f → in_range (certificate_of f) ≡ true →
    WellFormed (certificate_of f) × (certificate_bytes (certificate_of f) ≡ fields_bytes f)
formed f fits ok =
    let (issuer, house, few, some) = in_range_lem f fits ok in
    let front : take (length f.names) (places f.names) ≡ f.names = places_front f.names few in (
      record {
        issuer_known = omega arith;
        first_fits = fits.first_fits;
        last_fits = fits.last_fits;
        subject_formed = subst SubjectFormed (sym fits.speaks_of) (subject_formed f fits house few);
        sensible = sensible_if f.statement fits.statement_fits some;
      },
      ap (λ s. bytes 2 f.issuer ++ (bytes 4 f.first ++ (bytes 4 f.last ++ (subject_bytes s ++ statement_bytes f.statement)))) fits.speaks_of ∙ rw front,
    )

-- the fields of a certificate
abbrev pub fields_of : Certificate → Fields
fields_of c = record {
  issuer = c.issuer;
  first = c.first;
  last = c.last;
  house = (subject_of c.statement).house;
  names = names_of (subject_of c.statement);
  statement = c.statement;
}

-- the fields fit, have values that they may have, and give the certificate's bytes
pub record FieldsOf (c : Certificate) (f : Fields) : Type 0 where
  pub fits : Fits f
  pub in_range_lem : in_range (certificate_of f) ≡ true
  pub same : certificate_of f ≡ c
  pub same_bytes : certificate_bytes c ≡ fields_bytes f

pub fields_of_lem : (c : Certificate) → WellFormed c → FieldsOf c (fields_of c)
fields_of_lem c w =
    let s = subject_of c.statement in
    let kept = w.subject_formed in
    let names = names_of s in
    let long : length names ≡ s.count = length-take-le s.count s.names (omega arith) in
    let few : length names ≤ 6 = omega arith in
    let back : places names ≡ s.names
    = padded names few
    ∙ (ap (λ n. names ++ replicate (6 - n) 0) long
    ∙ (ap (λ xs. names ++ xs) (sym kept.zero_behind)
    ∙ take-append-drop s.count s.names)) in
    let (fits, some) = sensible_fits c.statement w.sensible in
    record {
      fits = record {
        issuer_fits = omega arith;
        first_fits = w.first_fits;
        last_fits = w.last_fits;
        house_fits = omega arith;
        count_fits = omega arith;
        names_fit = kept.names_fit;
        statement_fits = fits;
        speaks_of = ap₂ {C = Subject} (λ xs n. record { house = s.house; names = xs; count = n }) (sym back) (sym long);
      };
      in_range_lem =
          and_from _ _ (le-leb c.issuer 1023 (omega arith))
          (and_from _ _ (and_from _ _ (le-leb s.house 1023 (omega arith)) (le-leb s.count 6 kept.few_names)) some);
      same = refl;
      same_bytes = rw long;
    }
