use Rattle.std.proofs.Common.{◌≡◌, ℕ, ◌+◌, ◌<◌, length, get_or, take}
use Rattle.layout.specs.Entries.{mark_number}
use Rattle.table.specs.Tables.{mark_of}
use Rattle.table.specs.Views.{table_of}
use Rattle.table.proofs.mapping.MappingTable.marks.Given as goal

abbrev pub invariant-loop-e : goal.invariant-loop-e
invariant-loop-e l =
    (k : ℕ) → k < length l.out → get_or l.out k 0 ≡ mark_number (mark_of (take l.e-index (table_of l.self)) (l.first.0 + k))
