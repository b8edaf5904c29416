use Rattle.std.proofs.Common.{◌≡◌, true}
use Rattle.layout.specs.Geometry.{data_pages}
use Rattle.table.specs.Views.{table_of}
use Rattle.recovery.specs.Recovering.{Logged}
use Rattle.recovery.specs.Looking.{shown, Quiet}
use Rattle.recovery.proofs.reader.Reader.replay_log.Given as goal

abbrev pub invariant-loop-j : goal.invariant-loop-j
invariant-loop-j g l =
    ((g.C.Chip.meaning l.self.chip.now).on ≡ true) × Quiet (g.C.Chip.meaning l.initial.self.chip.now) (g.C.Chip.meaning l.self.chip.now)
    × Logged (data_pages l.initial.self.geometry.blocks) (shown (g.C.Chip.meaning l.initial.self.chip.now)) l.area l.j (table_of l.initial.table) (table_of l.table) l.next
    × (l.self.chip.ghost_name ≡ l.initial.self.chip.ghost_name) × (l.self.geometry ≡ l.initial.self.geometry)
