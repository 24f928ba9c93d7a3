-- The laws of the meaning, by induction on how a meaning or a right came about. Assumes nothing.
use Rattle.std.proofs.Common.{◌≡◌, ℕ, Bool, List, [], ◌∷◌, ◌++◌, sym, refl, ap, ◌∙◌, subst, append_assoc, arith}
use Rattle.certificates.specs.Access.{on_day}
use Rattle.certificates.specs.Certificates.{names_of, Valid, Gives}
use Rattle.certificates.specs.Laws.{Grows, Steady, IssuedNothing, FromOwner, FromIssuer, Splits}
use Rattle.certificates.specs.Meaning.{Means, itself, by, Has, owns, given}
use Rattle.certificates.specs.declared.Certificate.{Certificate}
use Rattle.certificates.specs.declared.Subject.{Subject}
use Rattle.certificates.specs.declared.access.Access.{Access}
use mathlib.Core.List.{Memᴰ}

-- a meaning carries over to other certificates and another day, if every certificate that was valid is there and valid again
unfoldable pub Carries : List Certificate → ℕ → List Certificate → ℕ → Type 0
Carries cs day ds later = (c : Certificate) → Memᴰ c cs → Valid day c → Memᴰ c ds × Valid later c

pub means_carries : {cs ds : List Certificate} {day later : ℕ} → Carries cs day ds later →
    {k : ℕ} {ns : List ℕ} {m : ℕ} → Means cs day k ns m → Means ds later k ns m
unfolding Carries
means_carries over itself = itself
means_carries over (by c who i v s q) = by c who (over c i v).0 (over c i v).1 s (means_carries over q)

-- it is the same right on any day
gives_later : {access : Access} {d : Bool} {who : Subject} {c : Certificate} (later : ℕ) → Gives access d who c → Gives (on_day later access) d who c
gives_later later g = record { set = g.set; stated = g.stated; among = g.among }

pub has_carries : {cs ds : List Certificate} (access : Access) {later : ℕ} → Carries cs access.day ds later →
    {d : Bool} {m : ℕ} → Has cs access d m → Has ds (on_day later access) d m
unfolding Carries
has_carries access over owns = owns
has_carries access {later} over (given c who i v g h q) =
    given c who (over c i v).0 (over c i v).1 (gives_later later g) (has_carries access over h) (means_carries over q)

pub grows : Grows
unfolding Carries
grows cs ds more access house (d, h) = (d, has_carries access {later = access.day} (λ c i v. (more c i, v)) h)

pub steady : Steady
unfolding Carries
steady cs day later same access house = (
  (λ (d, h). (d, has_carries (on_day day access) (λ c i v. (i, (same c i).0 v)) h)),
  (λ (d, h). (d, has_carries (on_day later access) (λ c i v. (i, (same c i).1 v)) h)),
)

pub from_issuer_lem : FromIssuer
from_issuer_lem cs day house names m nothing itself = (refl, refl)
from_issuer_lem cs day house names m nothing (by c who i v s q) = absurd (nothing c i refl)

has_from_owner : {cs : List Certificate} {access : Access} {d : Bool} {m : ℕ} → IssuedNothing cs access.owner → Has cs access d m → m ≡ access.owner
has_from_owner nothing owns = refl
has_from_owner nothing (given c who i v g h q) = absurd (nothing c i (has_from_owner nothing h))

pub from_owner_lem : FromOwner
from_owner_lem cs access house nothing (d, h) = has_from_owner nothing h

-- the front of a chain first, then its rest from where the front leads
pub joins : {cs : List Certificate} {day : ℕ} {k : ℕ} {names : List ℕ} {between m : ℕ} {rest : List ℕ} →
    Means cs day k names between → Means cs day between rest m → Means cs day k (names ++ rest) m
joins itself behind = behind
joins {rest = rest} (by {rest = names} c who i v s q) behind =
    by c who i v s (rw (append_assoc (names_of who) names rest) at (joins q behind))

cut_after : {cs : List Certificate} {day k : ℕ} {chain : List ℕ} {m : ℕ} → Means cs day k chain m → (names rest : List ℕ) → chain ≡ names ++ rest →
    (between : ℕ) × Means cs day k names between × Means cs day between rest m
cut_after {cs} {day} {k} {chain} {m} means [] rest e = (k, itself, subst (λ (xs : List ℕ). Means cs day k xs m) e means)
cut_after itself (n ∷ names) rest e = let none : ◌≡◌ {A = ℕ} 0 1 = cc in absurd (omega (arith, none))
cut_after (by {name = name} {rest = behind} c who i v s q) (n ∷ names) rest e =
    let same : behind ≡ names ++ rest = cc in
    let (between, front, back) = cut_after q (names_of who ++ names) rest (ap (λ xs. names_of who ++ xs) same ∙ sym (append_assoc (names_of who) names rest)) in
    (between, by c who i v (cc) front, back)

pub splits : Splits
splits cs day house names rest m = ((λ means. cut_after means names rest refl), (λ (between, front, back). joins front back))
