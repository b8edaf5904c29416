use Rattle.std.proofs.Common.{refl, ap, ◌∙◌, arith}
use Rattle.std.proofs.lemmas.Result.{err_from_is_err_and}
use Rattle.layout.specs.Geometry.{data_pages}
use Rattle.table.specs.Views.{table_of}
use Rattle.recovery.specs.Looking.{shown}
use Rattle.recovery.proofs.Lookwise.{quiet_then}
use Rattle.recovery.proofs.Wholly.{log_failed, log_long, data_failed, all_recovered}
use Rattle.recovery.proofs.reader.Reader.finish.Goals as goal

pub returns-in_err-next : goal.returns-in_err-next
returns-in_err-next g c =
    let m = g.C.Chip.meaning c.args.self.now.chip.now in
    let log = c.in_err-next.ensures in
    let p = err_from_is_err_and c.from_residual.result c.from_residual.ensures.1 in
    record {
      same = log.same;
      quiet = log.quiet;
      found = rw (p.1, p.2) (log_failed (data_pages c.args.self.now.geometry.blocks) (shown m) c.args.active.area c.args.active.number c.requires.active (table_of c.args.table) c.requires.entries _ (g.C.Chip.meaning c.replay_log.new.self.chip.now) log.found);
    }

pub check_data-requires : goal.check_data-requires
check_data-requires g c =
    let m = g.C.Chip.meaning c.args.self.now.chip.now in
    let m₁ = g.C.Chip.meaning c.replay_log.new.self.chip.now in
    let log = c.in_ok-next.ensures in
    let long = log_long (data_pages c.args.self.now.geometry.blocks) (shown m) c.args.active.area c.args.active.number c.requires.active (table_of c.args.table) c.requires.entries m m₁ refl log.quiet (table_of c.replay_log.new.table) c.in_ok-next.next log.found.1 in
    record {
      on = log.found.0;
      inside = omega (arith, long, ap (λ z. z.blocks) log.same.1);
    }

pub returns-in_err-check_data : goal.returns-in_err-check_data
returns-in_err-check_data g c =
    let m = g.C.Chip.meaning c.args.self.now.chip.now in
    let m₁ = g.C.Chip.meaning c.replay_log.new.self.chip.now in
    let m₂ = g.C.Chip.meaning c.check_data.new.self.chip.now in
    let log = c.in_ok-next.ensures in
    let backed = c.in_err-check_data.ensures in
    let p = err_from_is_err_and c.from_residual-in_err-check_data.result c.from_residual-in_err-check_data.ensures.1 in
    record {
      same = (backed.same.0 ∙ log.same.0, backed.same.1 ∙ log.same.1);
      quiet = quiet_then m m₁ m₂ log.quiet backed.quiet;
      found = rw (p.1, p.2) (data_failed (data_pages c.args.self.now.geometry.blocks) (shown m) c.args.active.area c.args.active.number c.requires.active (table_of c.args.table) c.requires.entries m m₁ refl log.quiet (table_of c.replay_log.new.table) c.in_ok-next.next log.found.1 _ m₂ backed.found);
    }

pub returns : goal.returns
returns g c =
    let m = g.C.Chip.meaning c.args.self.now.chip.now in
    let m₁ = g.C.Chip.meaning c.replay_log.new.self.chip.now in
    let m₂ = g.C.Chip.meaning c.check_data.new.self.chip.now in
    let log = c.in_ok-next.ensures in
    let backed = c.in_ok-check_data.ensures in
    record {
      same = (backed.same.0 ∙ log.same.0, backed.same.1 ∙ log.same.1);
      quiet = quiet_then m m₁ m₂ log.quiet backed.quiet;
      found = (backed.found.0, all_recovered (data_pages c.args.self.now.geometry.blocks) (shown m) c.args.active.area c.args.active.number c.requires.active (table_of c.args.table) c.requires.entries m m₁ refl log.quiet (table_of c.replay_log.new.table) c.in_ok-next.next log.found.1 backed.found.1);
    }
