-- Reading and writing are inverse, and what is refused is refused for a reason. Assumes nothing.
use Rattle.std.specs.Prelude.{◌≡◌, ℕ, ◌^◌, ◌<◌, false, ◌↔◌, List, ◌∷◌, ◌++◌, length, Some, Ok, Err}
use Rattle.certificates.specs.Certificates.{subject_of, in_range, WellFormed}
use Rattle.certificates.specs.declared.Certificate.{Certificate}
use Rattle.certificates.specs.declared.Statement.{Statement}
use Rattle.certificates.specs.declared.Statement.TheVariants.{Name, Rights}
use Rattle.certificates.specs.declared.Subject.{Subject}
use Rattle.std.specs.List.{flat_map, AllByRecursion}
use Rattle.wire.specs.Format.{statement_bytes, bytes_of_event}
use Rattle.wire.specs.Numbers.{bytes, places}
use Rattle.wire.specs.Reading.{Reading, event_read}
use Rattle.wire.specs.declared.events.Event.{Event}
use Rattle.wire.specs.declared.events.Event.TheVariants.{Issued, Revoked, DayPassed}
use Rattle.wire.specs.declared.faults.Fault.{Fault}
use Rattle.wire.specs.declared.faults.Fault.TheVariants.{OutOfRange}

-- an event that its bytes can hold, with values that it may have
abbrev pub Writable : Event → Type 0
Writable (Issued c) = WellFormed c
Writable (Revoked number) = number < 2 ^ 16
Writable DayPassed = Unit {0}

-- What is written of an event is read as that event again, whatever follows it.
abbrev pub WrittenIsRead : Type 0
WrittenIsRead = (e : Event) → Writable e → (rest : List ℕ) → event_read (bytes_of_event e ++ rest) ≡ Some (Ok e, rest)

-- the fields of a certificate as they stand in its bytes, whatever their values and however many names there are
pub record Fields : Type 0 where
  pub issuer : ℕ
  pub first : ℕ
  pub last : ℕ
  pub house : ℕ
  pub names : List ℕ
  pub statement : Statement

abbrev pub fields_bytes : Fields → List ℕ
fields_bytes f =
    bytes 2 f.issuer ++ (bytes 4 f.first ++ (bytes 4 f.last
    ++ ((bytes 2 f.house ++ (length f.names ∷ flat_map (bytes 2) f.names)) ++ statement_bytes f.statement)))

-- a house with its names as they are kept: the first six
abbrev pub kept_subject : ℕ → List ℕ → Subject
kept_subject house names = record { house = house; names = places names; count = length names }

abbrev pub certificate_of : Fields → Certificate
certificate_of f = record { issuer = f.issuer; first = f.first; last = f.last; statement = f.statement }

abbrev pub StatementFits : Statement → Type 0
StatementFits (Name who name) = name < 2 ^ 16
StatementFits (Rights who set delegable) = set < 2 ^ 64

-- each field fits its bytes, and the statement speaks of this house with these names
pub record Fits (f : Fields) : Type 0 where
  pub issuer_fits : f.issuer < 2 ^ 16
  pub first_fits : f.first < 2 ^ 32
  pub last_fits : f.last < 2 ^ 32
  pub house_fits : f.house < 2 ^ 16
  pub count_fits : length f.names < 2 ^ 8
  pub names_fit : AllByRecursion (λ n. n < 2 ^ 16) f.names
  pub statement_fits : StatementFits f.statement
  pub speaks_of : subject_of f.statement ≡ kept_subject f.house f.names

-- the bytes are those of a certificate with a value that it may not have, and then the rest
abbrev pub OutOfRangeThen : List ℕ → List ℕ → Type 0
OutOfRangeThen s rest = (f : Fields) × Fits f × (in_range (certificate_of f) ≡ false) × (s ≡ 1 ∷ (fields_bytes f ++ rest))

-- What reading some bytes gives, told by the bytes of events alone; where neither stands first, nothing is read.
pub record Exactly (s : List ℕ) (r : Reading) : Type 0 where
  -- an event and a rest, exactly where the bytes are those of the event and then the rest
  pub reads : (e : Event) (rest : List ℕ) → (r ≡ Some (Ok e, rest)) ↔ (Writable e × (s ≡ bytes_of_event e ++ rest))
  -- a fault and a rest: fault 2, exactly where the bytes are those of a certificate with a value that it may not have, and then the rest
  pub refuses : (fault : Fault) (rest : List ℕ) → (r ≡ Some (Err fault, rest)) ↔ ((fault ≡ OutOfRange) × OutOfRangeThen s rest)
