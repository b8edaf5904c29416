use Rattle.std.proofs.Common.{◌≡◌, ℕ, ◌<◌, false}
use Rattle.table.specs.Tables.{entry_at, holds}
use Rattle.table.proofs.mapping.MappingTable.find.Given as goal

abbrev pub invariant-loop-i : goal.invariant-loop-i
invariant-loop-i l = (k : ℕ) → k < l.i → holds l.address.0 (entry_at l.self.entries.items k) ≡ false
