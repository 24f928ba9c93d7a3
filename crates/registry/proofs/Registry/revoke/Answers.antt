use Rattle.registry.proofs.Indexed.{indexes_revoked}
use Rattle.registry.proofs.Kept.{in_range_revoked}
use Rattle.registry.proofs.Registry.revoke.Goals as goal
use Rattle.registry.specs.Numbered.{certificates_of}
use Rattle.std.proofs.Common.{◌∙◌}

pub invariant_of-self-clause-sound : goal.invariant_of-self-clause-sound
invariant_of-self-clause-sound c = rw c.revoke_in.ensures.after (in_range_revoked _ (certificates_of c.args.self.now) ∙ c.args.self.now.sound)

pub invariant_of-self-clause-indexed : goal.invariant_of-self-clause-indexed
invariant_of-self-clause-indexed c =
    let g = c.args.self.now in
    rw c.revoke_in.ensures.after (indexes_revoked g.index.entries.items (certificates_of g) g.indexed _)
