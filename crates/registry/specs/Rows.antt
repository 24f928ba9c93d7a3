-- The row of a house's name. Assumes nothing.
use Rattle.std.specs.Prelude.{ℕ, suc, Bool, false, cond, ◌&&◌, List, [], ◌∷◌, ◌==◌}
use Rattle.certificates.specs.declared.Certificate.{Certificate}
use Rattle.certificates.specs.declared.Statement.{Statement}
use Rattle.certificates.specs.declared.Statement.TheVariants.{Name, Rights}

abbrev pub says_name : ℕ → Statement → Bool
says_name name (Name who n) = n == name
says_name name (Rights who set delegable) = false

-- the certificate says what this name of this house stands for
abbrev pub states_name : ℕ → ℕ → Certificate → Bool
states_name house name c = c.issuer == house && says_name name c.statement

-- the number of the first certificate that says so; where none does, the number of certificates
unfoldable pub row_of : List Certificate → ℕ → ℕ → ℕ
row_of [] house name = 0
row_of (c ∷ cs) house name = cond (states_name house name c) 0 (suc (row_of cs house name))
