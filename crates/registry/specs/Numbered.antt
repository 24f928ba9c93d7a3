-- Certificates by number. Assumes nothing.
use Rattle.std.specs.Prelude.{ℕ, zero, suc, cond, List, [], ◌∷◌, length, replicate, Ok, Err, vec_items, Result, nat_lt, slice_index_or}
use Rattle.certificates.specs.Certificates.{in_range, revoked_of}
use Rattle.certificates.specs.declared.Certificate.{Certificate}
use Rattle.certificates.specs.declared.Statement.TheVariants.{Name}
use Rattle.registry.specs.declared.Registry.{Registry}
use Rattle.wire.specs.declared.faults.Fault.{Fault}
use Rattle.wire.specs.declared.faults.Fault.TheVariants.{OutOfRange, TooManyCertificates, UnknownCertificate}

abbrev pub certificates_of : Registry → List Certificate
certificates_of g = vec_items g.certificates

-- the certificate of a number; a number that none has reads as one that is valid on no day
abbrev pub never : Certificate
never = record { issuer = 0; first = 1; last = 0; statement = Name (record { house = 0; names = replicate 6 0; count = 0 }) 0 }

abbrev pub certificate_at : List Certificate → ℕ → Certificate
certificate_at cs i = slice_index_or cs i never

-- a certificate is taken up if its values are in range and no more than 1,023 came before it
abbrev pub issued : List Certificate → Certificate → Result (Unit {0}) Fault
issued cs c = cond (in_range c) (cond (nat_lt (length cs) 1024) (Ok tt) (Err TooManyCertificates)) (Err OutOfRange)

-- a number is taken back if some certificate has it
abbrev pub revoked : List Certificate → ℕ → Result (Unit {0}) Fault
revoked cs number = cond (nat_lt number (length cs)) (Ok tt) (Err UnknownCertificate)

-- the certificate of that number is valid on no day; nothing changes where none has it
unfoldable pub revoke_at : ℕ → List Certificate → List Certificate
revoke_at i [] = []
revoke_at zero (c ∷ cs) = revoked_of c ∷ cs
revoke_at (suc i) (c ∷ cs) = c ∷ revoke_at i cs
