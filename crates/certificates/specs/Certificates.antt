-- Whom a certificate speaks of, when it is valid and what it gives. Assumes nothing.
use Rattle.std.specs.Prelude.{◌≡◌, ℕ, ◌-◌, ◌^◌, ◌<◌, ◌≤◌, Bool, true, false, ◌&&◌, List, length, take, drop, replicate, nat_le, nat_lt}
use Rattle.certificates.specs.Rights.{Member, member}
use Rattle.certificates.specs.declared.Certificate.{Certificate}
use Rattle.certificates.specs.declared.access.Access.{Access}
use Rattle.certificates.specs.declared.Statement.{Statement}
use Rattle.certificates.specs.declared.Statement.TheVariants.{Name, Rights}
use Rattle.certificates.specs.declared.Subject.{Subject}
use Rattle.std.specs.List.{AllByRecursion}

-- the names that follow a subject's house: the front of its array
abbrev pub names_of : Subject → List ℕ
names_of s = take s.count s.names

-- of whom a statement speaks
abbrev pub subject_of : Statement → Subject
subject_of (Name who name) = who
subject_of (Rights who set delegable) = who

-- the day lies between the certificate's first and last day, both included
pub record Valid (day : ℕ) (c : Certificate) : Type 0 where
  pub begun : c.first ≤ day
  pub lasts : day ≤ c.last

-- the test for it
abbrev pub valid : ℕ → Certificate → Bool
valid day c = nat_le c.first day && nat_le day c.last

-- the certificate gives what is asked for to the subject, to be passed on or not as the flag says
pub record Gives (access : Access) (delegable : Bool) (who : Subject) (c : Certificate) : Type 0 where
  pub set : ℕ
  pub stated : c.statement ≡ Rights who set delegable
  pub among : Member access.right set

abbrev pub grants : Access → Statement → Bool
grants access (Name who name) = false
grants access (Rights who set delegable) = member access.right set

-- the test whether it gives what is asked for, either way
abbrev pub gives : Access → Certificate → Bool
gives access c = grants access c.statement

-- once taken back it has the same statement, and no day is both after its first and before its last
abbrev pub revoked_of : Certificate → Certificate
revoked_of c = record { issuer = c.issuer; first = 1; last = 0; statement = c.statement }

-- a known house and at most six names
abbrev pub subject_in_range : Subject → Bool
subject_in_range s = nat_le s.house 1023 && nat_le s.count 6

abbrev pub has_some_right : Statement → Bool
has_some_right (Name who name) = true
has_some_right (Rights who set delegable) = nat_lt 0 set

-- known houses, at most six names, some right
abbrev pub in_range : Certificate → Bool
in_range c = nat_le c.issuer 1023 && (subject_in_range (subject_of c.statement) && has_some_right c.statement)

abbrev pub Sensible : Statement → Type 0
Sensible (Name who name) = name < 2 ^ 16
Sensible (Rights who set delegable) = (0 < set) × (set < 2 ^ 64)

-- what every subject that was read keeps: a known house, at most six names with zeros behind them
pub record SubjectFormed (s : Subject) : Type 0 where
  pub house_known : s.house < 1024
  pub six_places : length s.names ≡ 6
  pub few_names : s.count ≤ 6
  pub names_fit : AllByRecursion (λ n. n < 2 ^ 16) (names_of s)
  pub zero_behind : drop s.count s.names ≡ replicate (6 - s.count) 0

-- what every certificate that was read keeps: a known issuer, days of 32 bits, some right
pub record WellFormed (c : Certificate) : Type 0 where
  pub issuer_known : c.issuer < 1024
  pub first_fits : c.first < 2 ^ 32
  pub last_fits : c.last < 2 ^ 32
  pub subject_formed : SubjectFormed (subject_of c.statement)
  pub sensible : Sensible c.statement
