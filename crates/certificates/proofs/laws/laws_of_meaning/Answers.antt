use Rattle.certificates.proofs.Meaning.{grows, steady, from_owner_lem, from_issuer_lem, splits}
use Rattle.certificates.proofs.laws.laws_of_meaning.Goals as goal

pub returns : goal.returns
returns c = record { grows = grows; steady = steady; from_owner = from_owner_lem; from_issuer = from_issuer_lem; splits = splits }
