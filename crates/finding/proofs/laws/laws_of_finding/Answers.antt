-- Named here and not in `using(..)`: the search leaves `lawful` open, which holds of certificates that the houses cover.
use Rattle.finding.proofs.Cases.{all_come_true}
use Rattle.finding.proofs.Lawful.{finds_lawfully}
use Rattle.finding.proofs.laws.laws_of_finding.Goals as goal

pub returns : goal.returns
returns c = record { lawful = finds_lawfully; cases = all_come_true }
