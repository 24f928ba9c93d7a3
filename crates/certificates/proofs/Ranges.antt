-- What the test of a certificate's values tells. Assumes nothing.
use Rattle.std.proofs.Common.{◌≡◌, ℕ, ◌<◌, ◌≤◌, true, ◌&&◌, leb, List, length, min, sym, ap, ◌∙◌, arith}
use Rattle.certificates.specs.Certificates.{names_of, subject_of, subject_in_range, in_range, has_some_right}
use Rattle.certificates.specs.declared.Certificate.{Certificate}
use Rattle.certificates.specs.declared.Subject.{Subject}
use Rattle.std.proofs.lemmas.Bool.{and_parts, leb-true}

pub record SubjectRanged (s : Subject) : Type 0 where
  pub house_known : s.house < 1024
  pub few_names : s.count ≤ 6

pub subject_ranged : (s : Subject) → subject_in_range s ≡ true → SubjectRanged s
subject_ranged s e =
    let (house, count) = and_parts (leb s.house 1023) (leb s.count 6) e in
    record { house_known = omega (arith, leb-true s.house 1023 house); few_names = leb-true s.count 6 count }

pub record Ranged (c : Certificate) : Type 0 where
  pub issuer_known : c.issuer < 1024
  pub subject : SubjectRanged (subject_of c.statement)

pub ranged : (c : Certificate) → in_range c ≡ true → Ranged c
ranged c e =
    let (issuer, rest) = and_parts (leb c.issuer 1023) (subject_in_range (subject_of c.statement) && has_some_right c.statement) e in
    let (subject, some) = and_parts (subject_in_range (subject_of c.statement)) (has_some_right c.statement) rest in
    record { issuer_known = omega (arith, leb-true c.issuer 1023 issuer); subject = subject_ranged (subject_of c.statement) subject }

-- a subject of few names has as many as its count says
pub counted_names : {s who : Subject} {names : List ℕ} → s ≡ who → names ≡ names_of s → length names ≡ min s.count 6 → who.count ≤ 6 →
    (length names ≡ who.count) × (length (names_of who) ≡ who.count)
counted_names {s} {who} {names} same are many few =
    let counted : length names ≡ who.count = many ∙ (ap (λ (x : Subject). min x.count 6) same ∙ omega arith) in
    (counted, sym (ap length (are ∙ ap names_of same)) ∙ counted)
