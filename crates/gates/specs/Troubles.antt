-- The text of each trouble. Assumes nothing.
use Rattle.std.specs.Prelude.{ℕ, List, codes}
use Rattle.gates.specs.declared.troubles.Trouble.{Trouble}
use Rattle.gates.specs.declared.troubles.Trouble.TheVariants.{UnknownHouse, NoMemory, ShortMemory}

abbrev pub text_of : Trouble → List ℕ
text_of UnknownHouse = codes "no house has this number"
text_of NoMemory = codes "out of memory"
text_of ShortMemory = codes "the lent memory is too short"
