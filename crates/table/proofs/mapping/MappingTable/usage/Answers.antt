use lib.ListN.{get_or-replicate}
use Rattle.std.proofs.Common.{◌≡◌, ◌≤◌, length, refl, ap, ◌∙◌, arith}
use Rattle.std.proofs.lemmas.List.{length-set}
use Rattle.device.specs.Chips.{block_of, data_page_at}
use Rattle.table.specs.Tables.{entry_at}
use Rattle.table.specs.Usages.{usage, usage_at, one_more}
use Rattle.table.specs.Views.{table_of}
use Rattle.table.proofs.Choosing.{counted_more, counted_small, counted_all}
use Rattle.table.proofs.mapping.MappingTable.usage.Goals as goal

pub loop-i-init : goal.loop-i-init
loop-i-init c = (refl, λ b l. get_or-replicate 64 b (usage 0 0) (usage 0 0) l)

pub with-requires : goal.with-requires
with-requires c =
    let t = table_of c.args.self.now in
    let same : length c.deref-e-items.result.now ≡ length t = ap length c.deref-e-items.ensures.0 in
    let few : length t ≤ 448 = omega (arith, c.deref-e-items.ensures.1) in
    counted_small c.loop-i.usage t c.loop-i.i c.erase_block-block.result.0 (omega arith) (omega arith) few c.loop-i.invariant.1

pub loop-i-preserved : goal.loop-i-preserved
loop-i-preserved c =
    let us = c.loop-i.usage in
    let t = table_of c.args.self.now in
    let at = c.erase_block-block.result.0 in
    let is : at ≡ block_of (data_page_at c.loop-i.i) = c.erase_block-block.ensures ∙ ap block_of c.chip_page.ensures in
    let same : length c.deref-e-items.result.now ≡ length t = ap length c.deref-e-items.ensures.0 in
    let few : length t ≤ 448 = omega (arith, c.deref-e-items.ensures.1) in
    let more : c.with.result ≡ one_more (usage_at us at) (entry_at t c.loop-i.i).mark = rw c.deref-e-items.ensures.0 at c.with.ensures in (
      length-set us at c.with.result ∙ c.loop-i.invariant.0,
      counted_more us t c.loop-i.i c.loop-i.invariant.0 (omega arith) at is c.with.result more (omega arith) c.loop-i.invariant.1,
    )

pub returns : goal.returns
returns c = record {
  whole = c.loop-i.invariant.0;
  each = counted_all c.loop-i.usage (table_of c.args.self.now) c.loop-i.i (omega (arith, ap length c.deref-e-items.ensures.0)) c.loop-i.invariant.1;
}
