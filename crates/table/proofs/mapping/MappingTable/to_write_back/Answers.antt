use Rattle.std.proofs.Common.{true, ◌+◌, ◌-◌, refl, rules, tests, arith}
use Rattle.std.proofs.lemmas.Iterator.{YieldsList-from_range}
use Rattle.table.specs.Usages.{usage_at}
use Rattle.table.specs.Views.{table_of, block_number}
use Rattle.table.proofs.Cheapest.{chosen_of_all}
use Rattle.table.proofs.Choosing.{numbered, chosen_by_table}
use Rattle.table.proofs.mapping.MappingTable.to_write_back.Goals as goal

pub returns : goal.returns
returns c =
    let us = c.usage-usage.result in
    let n = c.blocks-2.result in
    let r = c.min_by_key.result in
    chosen_by_table (λ u. true) (λ u. u.dirty) us (table_of c.args.self.now) (8 + (n - 8)) c.args.geometry.blocks r (block_number c.map.result)
    (omega arith) (omega arith) (numbered r c.map.result _ c.map.ensures.cases (λ b x h. search rules)) c.usage-usage.ensures.each
    (chosen_of_all (λ b. (usage_at us b).dirty) _ _ (λ x k q h. search (rules, tests)) (n - 8) 8 r c.min_by_key.ensures.ran (YieldsList-from_range 8 n (n - 8) refl refl))
