use Rattle.std.proofs.Common.{refl}
use Rattle.std.proofs.lemmas.Result.{err_from_is_err_and}
use Rattle.journal.specs.Notes.{noted, pages_of}
use Rattle.journal.proofs.Checkpointing.{clear_failed, fill_failed, close_failed, closed, noted_closed}
use Rattle.journal.proofs.Committing.{few_pages}
use Rattle.journal.proofs.memory.Journal.checkpoint.Goals as goal

pub returns-in_err-clear_other : goal.returns-in_err-clear_other
returns-in_err-clear_other g c =
    let m = g.C.Chip.meaning c.args.chip.now in
    let m₁ = g.C.Chip.meaning c.clear_other.new.chip in
    let one = c.in_err-clear_other.ensures in
    let p = err_from_is_err_and c.from_residual.result c.from_residual.ensures.1 in
    record {
      size = refl;
      commits = rw (p.1, p.2) (clear_failed (pages_of c.args.self.now) m (noted c.args.self.now) c.requires.settled m₁ one.others one.held _ one.done);
    }

pub returns-in_err-fill_other : goal.returns-in_err-fill_other
returns-in_err-fill_other g c =
    let m = g.C.Chip.meaning c.args.chip.now in
    let m₁ = g.C.Chip.meaning c.clear_other.new.chip in
    let m₂ = g.C.Chip.meaning c.fill_other.new.chip in
    let one = c.in_ok-clear_other.ensures in
    let two = c.in_err-fill_other.ensures in
    let p = err_from_is_err_and c.from_residual-in_err-fill_other.result c.from_residual-in_err-fill_other.ensures.1 in
    record {
      size = refl;
      commits = rw (p.1, p.2) (fill_failed (pages_of c.args.self.now) m (noted c.args.self.now) c.requires.settled m₁ one.others one.held one.done m₂ two.others two.held _ two.done);
    }

pub returns-in_err-close_other : goal.returns-in_err-close_other
returns-in_err-close_other g c =
    let m = g.C.Chip.meaning c.args.chip.now in
    let m₁ = g.C.Chip.meaning c.clear_other.new.chip in
    let m₂ = g.C.Chip.meaning c.fill_other.new.chip in
    let m₃ = g.C.Chip.meaning c.close_other.new.chip in
    let one = c.in_ok-clear_other.ensures in
    let two = c.in_ok-fill_other.ensures in
    let three = c.in_err-close_other.ensures in
    let p = err_from_is_err_and c.from_residual-in_err-close_other.result c.from_residual-in_err-close_other.ensures.1 in
    record {
      size = refl;
      commits = rw (p.1, p.2) (close_failed (pages_of c.args.self.now) m (noted c.args.self.now) c.requires.settled m₁ one.others one.held one.done m₂ two.others two.held two.done _ refl m₃ three.others _ three.done three.over);
    }

pub returns : goal.returns
returns g c =
    let m = g.C.Chip.meaning c.args.chip.now in
    let m₁ = g.C.Chip.meaning c.clear_other.new.chip in
    let m₂ = g.C.Chip.meaning c.fill_other.new.chip in
    let m₃ = g.C.Chip.meaning c.close_other.new.chip in
    let one = c.in_ok-clear_other.ensures in
    let two = c.in_ok-fill_other.ensures in
    let three = c.in_ok-close_other.ensures in
    let few = few_pages (pages_of c.args.self.now) m (noted c.args.self.now) c.requires.ready.0 c.requires.ready.1 in
    record {
      size = refl;
      commits = closed (pages_of c.args.self.now) m (noted c.args.self.now) c.requires.settled m₁ one.others one.held one.done m₂ two.others two.held two.done _ refl m₃ three.others three.done few three.over _ (noted_closed (noted c.args.self.now) c.clear.new.self.items c.other-self.result c.clear.ensures c.other-self.ensures);
    }
