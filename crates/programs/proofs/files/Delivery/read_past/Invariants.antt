use Rattle.programs.proofs.files.Delivery.read_past.Given as goal
use Rattle.programs.specs.Files.{ReadPast}
use Rattle.std.proofs.Common.{◌≡◌, ◌+◌, ◌-◌, length}

abbrev pub invariant-loop-self : goal.invariant-loop-self
invariant-loop-self l = ReadPast l.initial.self.bytes.items l.self.bytes.items l.longest × (l.self.before ≡ l.initial.self.before)

abbrev pub decreases-loop-self : goal.decreases-loop-self
decreases-loop-self l = l.longest + 1 - length l.self.bytes.items
