use Rattle.registry.proofs.Indexed.{indexes_entered}
use Rattle.registry.proofs.Kept.{in_range_push}
use Rattle.registry.proofs.Registry.add_with_name.Goals as goal
use Rattle.registry.specs.Numbered.{certificates_of}
use Rattle.std.proofs.Common.{refl, arith}

pub invariant_of-self-clause-sound : goal.invariant_of-self-clause-sound
invariant_of-self-clause-sound c =
    let g = c.args.self.now in
    rw c.push_reserved.ensures.items (in_range_push (certificates_of g) c.args.certificate g.sound c.requires.sound)

pub invariant_of-self-clause-indexed : goal.invariant_of-self-clause-indexed
invariant_of-self-clause-indexed c =
    let g = c.args.self.now in
    rw (c.enter.ensures, c.push_reserved.ensures.items)
    (indexes_entered g.index.entries.items (certificates_of g) g.indexed c.args.certificate c.args.place _ c.requires.place refl (omega arith) c.requires.new)
