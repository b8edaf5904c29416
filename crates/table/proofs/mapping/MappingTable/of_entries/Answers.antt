use Rattle.std.proofs.Common.{rules}
use Rattle.table.proofs.Tablewise.{fit_from, distinct_from}
use Rattle.table.proofs.mapping.MappingTable.of_entries.Goals as goal

pub invariant_of-result : goal.invariant_of-result
invariant_of-result c =
    let t = c.args.entries.items in
    record { within = search rules; fit = fit_from t c.requires; distinct = distinct_from t c.requires }
