use Rattle.std.proofs.Common.{sym, ◌∙◌, subst}
use Rattle.std.proofs.lemmas.Result.{err_from_is_err_and}
use Rattle.layout.specs.Geometry.{data_pages, entry_pages}
use Rattle.table.specs.Views.{table_of}
use Rattle.recovery.specs.Looking.{shown, Stage}
use Rattle.recovery.specs.Recovering.{Active, Entered, Recovered, Failed}
use Rattle.recovery.specs.Restoring.{found_of}
use Rattle.recovery.proofs.Lookwise.{quiet_then}
use Rattle.recovery.proofs.Wholly.{entries_failed, moved}
use Rattle.recovery.proofs.reader.Reader.restore.Goals as goal

pub returns-in_err-table : goal.returns-in_err-table
returns-in_err-table g c =
    let m = g.C.Chip.meaning c.args.self.now.chip.now in
    let table = c.in_err-table.ensures in
    let p = err_from_is_err_and c.from_residual.result c.from_residual.ensures.1 in
    record {
      same = table.same;
      quiet = table.quiet;
      found = rw (p.1, p.2) (entries_failed (data_pages c.args.self.now.geometry.blocks) (shown m) c.args.active.area c.args.active.number c.requires.active _ (g.C.Chip.meaning c.read_table.new.self.chip.now) table.found);
    }

pub finish-requires : goal.finish-requires
finish-requires g c =
    let D = data_pages c.args.self.now.geometry.blocks in
    let m = g.C.Chip.meaning c.args.self.now.chip.now in
    let m₁ = g.C.Chip.meaning c.read_table.new.self.chip.now in
    let table = c.in_ok-table.ensures in
    let back = sym (moved m m₁ table.quiet) in
    record {
      on = table.found.0;
      active = rw table.same.1 (subst (λ s. Active D s c.args.active.area c.args.active.number) back c.requires.active);
      entries = rw table.same.1 (subst (λ s. Entered D s c.args.active.area (entry_pages D) (table_of c.in_ok-table.table)) back table.found.1);
    }

pub returns : goal.returns
returns g c =
    let D = data_pages c.args.self.now.geometry.blocks in
    let m = g.C.Chip.meaning c.args.self.now.chip.now in
    let m₁ = g.C.Chip.meaning c.read_table.new.self.chip.now in
    let m₂ = g.C.Chip.meaning c.finish.new.self.chip.now in
    let table = c.in_ok-table.ensures in
    let rest = c.finish.ensures in
    record {
      same = (rest.same.0 ∙ table.same.0, rest.same.1 ∙ table.same.1);
      quiet = quiet_then m m₁ m₂ table.quiet rest.quiet;
      found = subst (λ s. Stage (λ f. Recovered D s (found_of f)) (Failed D s) c.finish.result m₂) (moved m m₁ table.quiet) (rw table.same.1 at rest.found);
    }
