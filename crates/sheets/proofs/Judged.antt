-- A line is judged good exactly if its houses are known and it is good. Assumes nothing.
use Rattle.certificates.specs.declared.access.Access.{Access}
use Rattle.std.proofs.Common.{◌≡◌, ℕ, Bool, true, false, cond, List, length, Some, None, Ok, Err, Option, Result, refl}
use Rattle.certificates.specs.Certificates.{names_of, valid, subject_of}
use Rattle.certificates.specs.Rights.{member}
use Rattle.certificates.specs.declared.Certificate.{Certificate}
use Rattle.certificates.specs.declared.Statement.{Statement}
use Rattle.certificates.specs.declared.Statement.TheVariants.{Name, Rights}
use Rattle.sheets.proofs.Shown.{impossible}
use Rattle.sheets.proofs.Walks.{walk_shown, shown_walk}
use Rattle.sheets.specs.Checking.{known_houses, stepped, walked, allowed, judged}
use Rattle.sheets.specs.Facts.{Fact, HasRight, shown}
use Rattle.sheets.specs.Sheets.{authorized, ripe, walks, reached, good, fact_of}
use Rattle.std.proofs.lemmas.Bool.{and_parts, and_from}
use Rattle.wire.specs.declared.faults.Fault.{Fault}
use Rattle.wire.specs.declared.faults.Fault.TheVariants.{LineOutOfRange, NotValid, NotGiven, IssuerNotShown}

-- what comes out good behind a test passed it
pub passed : {A : Type 0} (b : Bool) (x : Result A Fault) (fault : Fault) (a : A) → cond b x (Err fault) ≡ Ok a → (b ≡ true) × (x ≡ Ok a)
passed true x fault a e = (refl, e)
passed false x fault a e = impossible (cc)

-- what a certificate shows of the last of the houses
abbrev shown_by : Certificate → List ℕ → Fact
shown_by c houses = fact_of c (reached (subject_of c.statement).house houses)

module _ (line : ℕ) (facts : List Fact) (c : Certificate) (houses : List ℕ) where
  stepped_ok : (o : Option ℕ) (fact : Fact) → stepped line facts c houses o ≡ Ok fact → (o ≡ None) × (fact ≡ shown_by c houses)
  stepped_ok None fact e = (refl, cc)
  stepped_ok (Some n) fact e = impossible (cc)

  allowed_ok : (access : Access) (s : Statement) (fact : Fact) → allowed line facts c houses access s ≡ Ok fact →
      (authorized access facts c.issuer s ≡ true) × (walked line facts c houses ≡ Ok fact)
  allowed_ok access (Name who n) fact e = (refl, e)
  allowed_ok access (Rights who set d) fact e =
      let (among, e₁) = passed (member access.right set) _ (NotGiven line) fact e in
      let (has, e₂) = passed (shown (HasRight true c.issuer) facts) _ (IssuerNotShown line) fact e₁ in
      (and_from (member access.right set) (shown (HasRight true c.issuer) facts) among has, e₂)

  ok_allowed : (access : Access) (s : Statement) → authorized access facts c.issuer s ≡ true →
      allowed line facts c houses access s ≡ walked line facts c houses
  ok_allowed access (Name who n) a = refl
  ok_allowed access (Rights who set d) a =
      let (among, has) = and_parts (member access.right set) (shown (HasRight true c.issuer) facts) a in
      rw (among, has)

  pub judged_good : (access : Access) (fact : Fact) → length houses ≡ length (names_of (subject_of c.statement)) → judged line facts c houses access ≡ Ok fact →
      (known_houses houses ≡ true) × (good access facts c houses ≡ true) × (fact ≡ shown_by c houses)
  judged_good access fact same e =
      let (known, e₁) = passed (known_houses houses) _ (LineOutOfRange line) fact e in
      let (v, e₂) = passed (valid access.day c) _ (NotValid line) fact e₁ in
      let (a, e₃) = allowed_ok access c.statement fact e₂ in
      let (none, is) = stepped_ok _ fact e₃ in
      let r = and_from (valid access.day c) (authorized access facts c.issuer c.statement) v a in
      (known, and_from (ripe access facts c) _ r (shown_walk facts (subject_of c.statement).house (names_of (subject_of c.statement)) houses same none), is)

  pub good_judged : (access : Access) → known_houses houses ≡ true → good access facts c houses ≡ true →
      judged line facts c houses access ≡ Ok (shown_by c houses)
  good_judged access known g =
      let (r, w) = and_parts (ripe access facts c) (walks facts (subject_of c.statement).house (names_of (subject_of c.statement)) houses) g in
      let (v, a) = and_parts (valid access.day c) (authorized access facts c.issuer c.statement) r in
      rw (known, v, ok_allowed access c.statement a, walk_shown facts (subject_of c.statement).house (names_of (subject_of c.statement)) houses w)
