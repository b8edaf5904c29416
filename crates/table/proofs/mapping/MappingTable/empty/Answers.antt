use Rattle.std.proofs.Common.{◌∙◌, ap, rules, arith}
use Rattle.table.specs.Tables.{empty_table}
use Rattle.table.proofs.Tablewise.{kept}
use Rattle.table.proofs.Changing.{empty_proper}
use Rattle.table.proofs.Keeping.{unmarked}
use Rattle.table.proofs.mapping.MappingTable.empty.Goals as goal

pub invariant_of-result : goal.invariant_of-result
invariant_of-result c =
    let k = kept _ _ (unmarked _ _ _ c.truncate.ensures.items c.from-entries.ensures.0 (omega arith)) (empty_proper _) in record { within = search rules; fit = k.0; distinct = k.1 }

pub returns : goal.returns
returns c = unmarked _ _ _ c.truncate.ensures.items c.from-entries.ensures.0 (omega arith) ∙ ap empty_table (search rules)
