use Rattle.std.proofs.Common.{◌≡◌, length, ap, ◌∙◌, arith}
use Rattle.table.specs.Views.{table_of}
use Rattle.table.proofs.Keeping.{table_proper}
use Rattle.table.proofs.Marking.{marks_more, marks_all}
use Rattle.table.proofs.mapping.MappingTable.marks.Goals as goal

pub loop-e-preserved : goal.loop-e-preserved
loop-e-preserved c =
    let m = c.args.self.now in
    let same : length c.as_slice-e-items.result.now ≡ length (table_of m) = ap length c.as_slice-e-items.ensures in
    λ k l. marks_more (table_of m) (table_proper m) c.loop-e.e-index (omega arith) c.loop-e.out c.write_mark.new.out c.args.first.0 c.loop-e.invariant (rw c.as_slice-e-items.ensures at c.write_mark.ensures) k (omega arith)

pub returns : goal.returns
returns c =
    marks_all (table_of c.args.self.now) c.loop-e.e-index c.loop-e.out c.args.first.0 (length c.args.out.now)
    (omega (arith, ap length c.as_slice-e-items.ensures)) (c.loop-e.auto.out ∙ c.fill.ensures.len) c.loop-e.invariant
