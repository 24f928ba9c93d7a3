-- What every certificate of a registry keeps. Assumes nothing.
use Rattle.certificates.specs.Certificates.{in_range}
use Rattle.certificates.specs.declared.Certificate.{Certificate}
use Rattle.std.specs.Prelude.{Bool, true, ◌&&◌, List, [], ◌∷◌}

-- each has the values that a certificate may have
unfoldable pub all_in_range : List Certificate → Bool
all_in_range [] = true
all_in_range (c ∷ cs) = in_range c && all_in_range cs
