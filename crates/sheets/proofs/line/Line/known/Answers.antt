use Rattle.sheets.proofs.Stepping.{known_each}
use Rattle.sheets.proofs.line.Line.known.Goals as goal
use Rattle.sheets.specs.Reading.{houses_of}
use Rattle.std.proofs.Common.{leb, rules}
use Rattle.std.proofs.lemmas.Iterator.{YieldsList-from_slice}
use Rattle.std.proofs.lemmas.Iterator.Search.{all_from_yields_List}

pub returns : goal.returns
returns c =
    known_each (houses_of c.args.self.now) c.all.result
    (all_from_yields_List (λ h. leb h 1023) _ _ c.all.result c.all.ensures.ran (YieldsList-from_slice (houses_of c.args.self.now) cc) (λ x r q k. search rules))
