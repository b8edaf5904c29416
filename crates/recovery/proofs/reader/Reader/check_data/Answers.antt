use Rattle.std.proofs.Common.{◌∙◌}
use Rattle.std.proofs.lemmas.Result.{err_from_is_err_and}
use Rattle.table.specs.Views.{table_of}
use Rattle.recovery.proofs.Lookwise.{quiet_then}
use Rattle.recovery.proofs.Datawise.{backed_more, backed_stuck}
use Rattle.recovery.proofs.reader.Reader.check_data.Goals as goal

pub returns-in_err-check_entry : goal.returns-in_err-check_entry
returns-in_err-check_entry g c =
    let m = g.C.Chip.meaning c.args.self.now.chip.now in
    let m₁ = g.C.Chip.meaning c.loop-i.self.chip.now in
    let m₂ = g.C.Chip.meaning c.check_entry.new.self.chip.now in
    let h = c.in_err-check_entry.ensures in
    let inv = c.loop-i.invariant in
    let p = err_from_is_err_and c.from_residual.result c.from_residual.ensures.1 in
    record {
      same = (h.same.0 ∙ inv.3, h.same.1 ∙ inv.4);
      quiet = quiet_then m m₁ m₂ inv.1 h.quiet;
      found = rw (p.1, p.2) (backed_stuck m m₁ c.as_slice-entries.result.now c.loop-i.i inv.1 inv.2 m₂ (table_of c.args.table.now) _ c.as_slice-entries.ensures c.loop-i-test.true h.found);
    }

pub loop-i-preserved : goal.loop-i-preserved
loop-i-preserved g c =
    let m = g.C.Chip.meaning c.args.self.now.chip.now in
    let m₁ = g.C.Chip.meaning c.loop-i.self.chip.now in
    let m₂ = g.C.Chip.meaning c.check_entry.new.self.chip.now in
    let h = c.in_ok-check_entry.ensures in
    let inv = c.loop-i.invariant in (
      h.found.0,
      quiet_then m m₁ m₂ inv.1 h.quiet,
      backed_more m m₁ c.as_slice-entries.result.now c.loop-i.i inv.1 inv.2 h.found.1,
      h.same.0 ∙ inv.3,
      h.same.1 ∙ inv.4,
    )
