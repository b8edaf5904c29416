use Rattle.std.proofs.Common.{◌≡◌}
use Rattle.layout.specs.Geometry.{data_pages}
use Rattle.recovery.proofs.Pageful.{Reading}
use Rattle.recovery.proofs.reader.Reader.read_pages.Given as goal

abbrev pub invariant-loop-j : goal.invariant-loop-j
invariant-loop-j g l =
    Reading (data_pages l.initial.self.geometry.blocks) l.area (g.C.Chip.meaning l.initial.self.chip.now) (g.C.Chip.meaning l.self.chip.now) l.j l.table
    × (l.self.chip.ghost_name ≡ l.initial.self.chip.ghost_name) × (l.self.geometry ≡ l.initial.self.geometry)
