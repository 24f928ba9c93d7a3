-- The bytes of each event. Assumes nothing.
use Rattle.std.specs.Prelude.{ℕ, cond, List, [], ◌∷◌, ◌++◌}
use Rattle.certificates.specs.Certificates.{names_of, subject_of}
use Rattle.certificates.specs.declared.Certificate.{Certificate}
use Rattle.certificates.specs.declared.Statement.{Statement}
use Rattle.certificates.specs.declared.Statement.TheVariants.{Name, Rights}
use Rattle.certificates.specs.declared.Subject.{Subject}
use Rattle.std.specs.List.{flat_map}
use Rattle.wire.specs.Numbers.{bytes}
use Rattle.wire.specs.declared.events.Event.{Event}
use Rattle.wire.specs.declared.events.Event.TheVariants.{Issued, Revoked, DayPassed}

-- a house, how many names follow it, and each of these in two bytes
abbrev pub subject_bytes : Subject → List ℕ
subject_bytes s = bytes 2 s.house ++ (s.count ∷ flat_map (bytes 2) (names_of s))

-- a tag, then a name or a set of rights
abbrev pub statement_bytes : Statement → List ℕ
statement_bytes (Name who name) = 0 ∷ bytes 2 name
statement_bytes (Rights who set delegable) = cond delegable 2 1 ∷ bytes 8 set

abbrev pub certificate_bytes : Certificate → List ℕ
certificate_bytes c =
    bytes 2 c.issuer ++ (bytes 4 c.first ++ (bytes 4 c.last ++ (subject_bytes (subject_of c.statement) ++ statement_bytes c.statement)))

-- a kind, then what that kind asks for
abbrev pub bytes_of_event : Event → List ℕ
bytes_of_event (Issued c) = 1 ∷ certificate_bytes c
bytes_of_event (Revoked number) = 2 ∷ bytes 2 number
bytes_of_event DayPassed = 3 ∷ []
