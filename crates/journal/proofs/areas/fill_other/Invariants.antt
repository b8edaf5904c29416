-- The pages that were gone through are entry pages of the table, and the rest of the chip is as it was.
use Rattle.std.proofs.Common.{◌≡◌, length}
use Rattle.layout.specs.Geometry.{data_pages}
use Rattle.table.specs.Views.{table_of}
use Rattle.journal.proofs.Filling.{Filling}
use Rattle.journal.proofs.areas.fill_other.Given as goal

abbrev pub invariant-loop-j : goal.invariant-loop-j
invariant-loop-j g l =
    (length l.page ≡ 512)
    × Filling (data_pages l.geometry.blocks) l.active (table_of l.table) (g.C.Chip.meaning l.initial.chip) l.j (g.C.Chip.meaning l.chip)
