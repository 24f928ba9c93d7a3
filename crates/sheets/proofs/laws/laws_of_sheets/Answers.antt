-- Named here and not in `using(..)`: the search leaves `decided` open, whose conclusion is one of two cases.
use Rattle.sheets.proofs.Complete.{complete, decided}
use Rattle.sheets.proofs.SheetRead.{checks_exactly_lem}
use Rattle.sheets.proofs.Sound.{sound}
use Rattle.sheets.proofs.Written.{holds_writable_lem}
use Rattle.sheets.proofs.laws.laws_of_sheets.Goals as goal

pub returns : goal.returns
returns c = record { sound = sound; complete = complete; decided = decided; checks_exactly = checks_exactly_lem; holds_writable = holds_writable_lem }
