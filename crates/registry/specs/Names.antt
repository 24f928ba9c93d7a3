-- Names that a certificate states, new or not. Assumes nothing.
use Rattle.std.specs.Prelude.{◌≡◌, ℕ, ◌<◌, true, List, length}
use Rattle.certificates.specs.declared.Certificate.{Certificate}
use Rattle.certificates.specs.declared.Statement.TheVariants.{Name}
use Rattle.certificates.specs.declared.Subject.{Subject}
use Rattle.registry.specs.Rows.{states_name, row_of}

-- the certificate states this name, and none did before
pub record NewName (cs : List Certificate) (c : Certificate) (name : ℕ) : Type 0 where
  pub who : Subject
  pub stated : c.statement ≡ Name who name
  pub first : row_of cs c.issuer name ≡ length cs

-- what it states has a row already
abbrev pub NoNewName : List Certificate → Certificate → Type 0
NoNewName cs c = (house name : ℕ) → states_name house name c ≡ true → row_of cs house name < length cs
