-- The text of each answer. Assumes nothing.
use Rattle.std.specs.Prelude.{ℕ, List, codes}
use Rattle.promise.specs.declared.answers.Answer.{Answer}
use Rattle.promise.specs.declared.answers.Answer.TheVariants.{Open, Refused}
use Rattle.wire.specs.Faults as faults

-- open, or what is told of the fault
abbrev pub text_of : Answer → List ℕ
text_of Open = codes "open"
text_of (Refused fault) = faults.text_of fault
