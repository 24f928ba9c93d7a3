-- What is read from bytes. Assumes nothing.
use Rattle.std.specs.Prelude.{ℕ, Bool, true, false, cond, List, Some, None, Ok, Err, Result, ◌==◌}
use Rattle.certificates.specs.Certificates.{in_range}
use Rattle.certificates.specs.declared.Certificate.{Certificate}
use Rattle.certificates.specs.declared.Statement.{Statement}
use Rattle.certificates.specs.declared.Statement.TheVariants.{Name, Rights}
use Rattle.certificates.specs.declared.Subject.{Subject}
use Rattle.wire.specs.Numbers.{Taken, take_number, take_numbers, keep_six, and_then}
use Rattle.wire.specs.declared.events.Event.{Event}
use Rattle.wire.specs.declared.events.Event.TheVariants.{Issued, Revoked, DayPassed}
use Rattle.wire.specs.declared.faults.Fault.{Fault}
use Rattle.wire.specs.declared.faults.Fault.TheVariants.{OutOfRange}

abbrev pub take_rights : Subject → List ℕ → Bool → Taken Statement
take_rights who s delegable = and_then (take_number 8 s) λ set rest. Some (Rights who set delegable, rest)

abbrev pub take_stated : Subject → ℕ → List ℕ → Taken Statement
take_stated who tag s =
    cond (tag == 0) (and_then (take_number 2 s) λ name rest. Some (Name who name, rest))
    (cond (tag == 1) (take_rights who s false)
    (cond (tag == 2) (take_rights who s true) None))

-- what is said of a subject: a tag, then a name or a set of rights
abbrev pub take_statement : Subject → List ℕ → Taken Statement
take_statement who s = and_then (take_number 1 s) (take_stated who)

-- a house, how many names follow it, and these
abbrev pub take_subject : List ℕ → Taken Subject
take_subject s = and_then (take_number 2 s) λ house s₁. and_then (take_number 1 s₁) λ count s₂. and_then (and_then (take_numbers count s₂) keep_six) λ six rest.
    Some (record { house = house; names = six.numbers; count = count }, rest)

-- A certificate's bytes taken apart, its values not looked at; nothing where they end too early or the tag is unknown.
abbrev pub frame : List ℕ → Taken Certificate
frame s =
    and_then (take_number 2 s) λ issuer s₁. and_then (take_number 4 s₁) λ first s₂. and_then (take_number 4 s₂) λ last s₃.
    and_then (take_subject s₃) λ who s₄. and_then (take_statement who s₄) λ statement rest.
    Some (record { issuer = issuer; first = first; last = last; statement = statement }, rest)

-- What reading gives: an event, or the fault of one that has a value that it may not have, and what follows it;
-- nothing where its length can't be known. Nothing more is read then.
abbrev pub Reading : Type 0
Reading = Taken (Result Event Fault)

abbrev pub looked : Taken Certificate → Reading
looked framed = and_then framed λ c rest. Some (cond (in_range c) (Ok (Issued c)) (Err OutOfRange), rest)

abbrev pub revoking : Taken ℕ → Reading
revoking taken = and_then taken λ number rest. Some (Ok (Revoked number), rest)

abbrev pub read_kind : ℕ → List ℕ → Reading
read_kind kind s =
    cond (kind == 1) (looked (frame s))
    (cond (kind == 2) (revoking (take_number 2 s))
    (cond (kind == 3) (Some (Ok DayPassed, s)) None))

-- an event: its kind, then what that kind asks for
abbrev pub event_read : List ℕ → Reading
event_read s = and_then (take_number 1 s) read_kind
