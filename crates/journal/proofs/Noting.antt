-- A record that fits the table, as it is applied.
use Rattle.std.proofs.Common.{◌≡◌, Some, None, Ok, Err, Option, Result, sym, ◌∙◌}
use Rattle.layout.specs.declared.records.Record.{Record}
use Rattle.table.specs.declared.changes.Breach.{Breach}
use Rattle.table.specs.Tables.{Table, apply}
use Rattle.table.specs.Views.{Applies}

-- a record that fits was applied
pub applied : (t u w : Table) (r : Record) (x : Result (Unit {0}) Breach) → Applies t r x w → apply t r ≡ Some u → w ≡ u
applied t u w r (Ok _) h e = let z : ◌≡◌ {A = Option Table} (Some w) (Some u) = sym h ∙ e in cc
applied t u w r (Err _) (h, _) e = let z : ◌≡◌ {A = Option Table} None (Some u) = sym h ∙ e in cc
