use Rattle.std.proofs.Common.{◌≡◌, true}
use Rattle.recovery.specs.Recovering.{Backed}
use Rattle.recovery.specs.Looking.{shown, Quiet}
use Rattle.recovery.proofs.reader.Reader.check_data.Given as goal

abbrev pub invariant-loop-i : goal.invariant-loop-i
invariant-loop-i g l =
    ((g.C.Chip.meaning l.self.chip.now).on ≡ true) × Quiet (g.C.Chip.meaning l.initial.self.chip.now) (g.C.Chip.meaning l.self.chip.now)
    × Backed (shown (g.C.Chip.meaning l.initial.self.chip.now)) l.entries l.i
    × (l.self.chip.ghost_name ≡ l.initial.self.chip.ghost_name) × (l.self.geometry ≡ l.initial.self.geometry)
