-- An event's fault is told before those of the events behind it. Assumes nothing.
use Rattle.promise.specs.Requests.{told}
use Rattle.promise.specs.States.{Delivered, noting}
use Rattle.promise.specs.declared.answers.Answer.{Answer}
use Rattle.promise.specs.declared.answers.Answer.TheVariants.{Refused}
use Rattle.std.specs.Option.{option_to_list}
use Rattle.std.proofs.Common.{◌≡◌, List, [], ◌∷◌, ◌++◌, map, Some, None, Option, sym, ap, append_assoc, append-nil}
use Rattle.wire.specs.declared.faults.Fault.{Fault}

pub told_noting : (answers : List Answer) (fault : Option Fault) (d : Delivered) → told answers (noting fault d) ≡ told (answers ++ map Refused (option_to_list fault)) d
told_noting answers None d = ap (λ (fs : List Answer). (d.0, fs ++ map Refused d.1)) (sym (append-nil answers))
told_noting answers (Some fault) d = ap (λ (fs : List Answer). (d.0, fs)) (sym (append_assoc answers (Refused fault ∷ []) (map Refused d.1)))
