use Rattle.std.proofs.Common.{length, ap, arith}
use Rattle.table.specs.Views.{table_of}
use Rattle.table.proofs.Tablewise.{unheld_from}
use Rattle.table.proofs.mapping.MappingTable.find.Goals as goal

pub returns : goal.returns
returns c =
    unheld_from (table_of c.args.self.now) c.args.address.0 (λ k h. c.loop-i.invariant k (omega (arith, ap length c.deref-e-items.ensures.0)))
