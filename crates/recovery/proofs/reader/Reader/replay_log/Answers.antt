use Rattle.std.proofs.Common.{◌<◌, ◌∙◌, arith}
use Rattle.std.proofs.lemmas.Result.{err_from_is_err_and}
use Rattle.layout.specs.Geometry.{data_pages, log_pages}
use Rattle.table.specs.Views.{table_of}
use Rattle.recovery.proofs.Lookwise.{quiet_then}
use Rattle.recovery.proofs.Logwise.{logged_more, logged_stuck}
use Rattle.recovery.proofs.reader.Reader.replay_log.Goals as goal

pub returns-in_err-next : goal.returns-in_err-next
returns-in_err-next g c =
    let D = data_pages c.args.self.now.geometry.blocks in
    let m = g.C.Chip.meaning c.args.self.now.chip.now in
    let m₁ = g.C.Chip.meaning c.loop-j.self.chip.now in
    let m₂ = g.C.Chip.meaning c.replay_at.new.self.chip.now in
    let h = c.in_err-next.ensures in
    let inv = c.loop-j.invariant in
    let l : c.loop-j.j < log_pages D = omega (arith, c.loop-j-test.true, c.log_pages-j-end.ensures) in
    let p = err_from_is_err_and c.from_residual.result c.from_residual.ensures.1 in
    record {
      same = (h.same.0 ∙ inv.3, h.same.1 ∙ inv.4);
      quiet = quiet_then m m₁ m₂ inv.1 h.quiet;
      found = rw (p.1, p.2) (logged_stuck D m m₁ c.args.area c.loop-j.j (table_of c.args.table.now) (table_of c.loop-j.table) c.loop-j.next inv.1 inv.2 m₂ _ l (rw inv.4 at h.found));
    }

pub loop-j-preserved : goal.loop-j-preserved
loop-j-preserved g c =
    let D = data_pages c.args.self.now.geometry.blocks in
    let m = g.C.Chip.meaning c.args.self.now.chip.now in
    let m₁ = g.C.Chip.meaning c.loop-j.self.chip.now in
    let m₂ = g.C.Chip.meaning c.replay_at.new.self.chip.now in
    let h = c.in_ok-next.ensures in
    let inv = c.loop-j.invariant in (
      h.found.0,
      quiet_then m m₁ m₂ inv.1 h.quiet,
      logged_more D m m₁ c.args.area c.loop-j.j (table_of c.args.table.now) (table_of c.loop-j.table) c.loop-j.next inv.1 inv.2 (table_of c.replay_at.new.table) _ (rw inv.4 at h.found.1),
      h.same.0 ∙ inv.3,
      h.same.1 ∙ inv.4,
    )
