use Rattle.std.proofs.Common.{◌≡◌, length}
use Rattle.table.specs.Views.{table_of}
use Rattle.table.proofs.Choosing.{Counted}
use Rattle.table.proofs.mapping.MappingTable.usage.Given as goal

abbrev pub invariant-loop-i : goal.invariant-loop-i
invariant-loop-i l = (length l.usage ≡ 64) × Counted l.usage (table_of l.self) l.i
