use Rattle.std.proofs.Common.{◌≡◌, ◌<◌, eqb, length, sym, refl, ap, ◌∙◌, subst, arith}
use Rattle.device.specs.Chips.{block_of, data_page_at}
use Rattle.table.specs.Tables.{ProperTable}
use Rattle.table.proofs.Keeping.{table_proper}
use Rattle.journal.specs.Notes.{noted}
use Rattle.journal.specs.Drops.{in_block, dropping_page}
use Rattle.journal.proofs.Dropped.{dropped_none, dropped_all, dropped_beside, dropped_more}
use Rattle.journal.proofs.Spared.{upto_few}
use Rattle.journal.proofs.memory.Journal.drop_block.Goals as goal
use Rattle.journal.proofs.memory.Journal.drop_block.Goals.{then-eq, else-eq}

pub loop-i-init : goal.loop-i-init
loop-i-init c = (refl, dropped_none c.args.block.0 (noted c.args.self.now))

pub drop_page-requires : goal.drop_page-requires
drop_page-requires c = record {
  room = omega (arith, ap (λ v. length v.staged) c.loop-i.invariant.1, upto_few c.args.block.0 c.loop-i.i (noted c.args.self.now) c.requires.none);
}

pub loop-i-preserved : goal.loop-i-preserved
loop-i-preserved c =
    let b = c.args.block.0 in
    let i = c.loop-i.i in
    let v = noted c.args.self.now in
    let inv = c.loop-i.invariant in
    let inside : i < length v.table = omega (arith, c.loop-i-test.true, c.len-i-end.ensures) in
    let at : c.erase_block.result.0 ≡ block_of (data_page_at i) = c.erase_block.ensures ∙ ap block_of c.chip_page.ensures in
    let same : in_block b i ≡ c.eq.result = ap (λ k. eqb k b) (sym at) ∙ sym c.eq.ensures in
    elim c.if-eq.branch [
      | then-eq w ↦ (
        ap (λ j. j.geometry) w.self-is ∙ w.drop_page.ensures.size ∙ inv.0,
        ap noted w.self-is ∙ w.drop_page.ensures.after ∙ ap (dropping_page i) inv.1
            ∙ dropped_more b i v inside (same ∙ w.if-eq.true) (subst ProperTable (ap (λ x. x.table) inv.1) (table_proper c.loop-i.self.table)),
      )
      | else-eq w ↦ (
        ap (λ j. j.geometry) w.self-is ∙ inv.0,
        ap noted w.self-is ∙ inv.1 ∙ dropped_beside b i v inside (same ∙ w.if-eq.false),
      )
    ]

pub returns : goal.returns
returns c = record {
  size = c.loop-i.invariant.0;
  after = c.loop-i.invariant.1 ∙ dropped_all c.args.block.0 c.loop-i.i (noted c.args.self.now) (omega (arith, c.loop-i-test.false, c.len-i-end.ensures));
}
