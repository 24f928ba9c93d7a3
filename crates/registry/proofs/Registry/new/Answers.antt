use Rattle.registry.proofs.Indexed.{none_indexed}
use Rattle.registry.proofs.Registry.new.Goals as goal
use Rattle.registry.specs.Keeping.{all_in_range}

pub invariant_of-result-clause-sound : goal.invariant_of-result-clause-sound
unfolding all_in_range
invariant_of-result-clause-sound c = rw c.in_ok-certificates.ensures.items

pub invariant_of-result-clause-indexed : goal.invariant_of-result-clause-indexed
invariant_of-result-clause-indexed c = rw (c.in_ok-certificates.ensures.items, c.in_ok-index.ensures) none_indexed
