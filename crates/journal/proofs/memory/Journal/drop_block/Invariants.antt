use Rattle.std.proofs.Common.{◌≡◌}
use Rattle.journal.specs.Notes.{noted}
use Rattle.journal.proofs.Dropped.{dropped_upto}
use Rattle.journal.proofs.memory.Journal.drop_block.Given as goal

abbrev pub invariant-loop-i : goal.invariant-loop-i
invariant-loop-i l = (l.self.geometry ≡ l.initial.self.geometry) × (noted l.self ≡ dropped_upto l.block.0 l.i (noted l.initial.self))
