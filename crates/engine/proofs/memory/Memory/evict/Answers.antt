use Rattle.std.proofs.Common.{ap, ◌∙◌}
use Rattle.std.proofs.lemmas.Result.{err_from_is_err_and}
use Rattle.layout.specs.Geometry.{data_pages}
use Rattle.table.specs.Tables.{without}
use Rattle.journal.specs.Notes.{noted, pages_of}
use Rattle.engine.proofs.Remarking.{still_held, room_made, drop_made, drop_owed, evicts_by, not_evicted}
use Rattle.engine.proofs.memory.Memory.evict.Goals as goal

pub returns-in_err-make_roomy : goal.returns-in_err-make_roomy
returns-in_err-make_roomy g c =
    let m = g.C.Chip.meaning c.args.chip.now in
    let m₁ = g.C.Chip.meaning c.make_roomy.new.chip in
    let roomy = c.in_err-make_roomy.ensures in
    let p = err_from_is_err_and c.from_residual.result c.from_residual.ensures.1 in
    record {
      size = roomy.size;
      space = roomy.space;
      evicts = rw (p.1, p.2) (not_evicted (pages_of c.args.self.now.journal) c.args.address.0 m (noted c.args.self.now.journal) c.args.self.now.space _ m₁ (noted c.make_roomy.new.self.journal) roomy.roomy);
    }

pub stage-owed-requires : goal.stage-owed-requires
stage-owed-requires g c =
    let m = g.C.Chip.meaning c.args.chip.now in
    let m₁ = g.C.Chip.meaning c.make_roomy.new.chip in
    let v = noted c.args.self.now.journal in
    let v₁ = noted c.make_roomy.new.self.journal in
    let D = pages_of c.args.self.now.journal in
    let a = c.args.address in
    let made = c.in_ok-make_roomy.ensures.roomy in
    record {
      room = room_made D m v c.args.self.now.space m₁ v₁ made c.requires.holding.0 c.requires.holding.1;
      fits = (without v₁.table a.0, drop_made v₁.table a (still_held D m v c.args.self.now.space m₁ v₁ made a.0 c.requires.held));
    }

pub commit_owed-requires : goal.commit_owed-requires
commit_owed-requires g c =
    let m = g.C.Chip.meaning c.args.chip.now in
    let m₁ = g.C.Chip.meaning c.make_roomy.new.chip in
    let v = noted c.args.self.now.journal in
    let v₁ = noted c.make_roomy.new.self.journal in
    let D = pages_of c.args.self.now.journal in
    let a = c.args.address in
    let roomy = c.in_ok-make_roomy.ensures in
    let held₁ = still_held D m v c.args.self.now.space m₁ v₁ roomy.roomy a.0 c.requires.held in
    record {
      ready = drop_owed D m v c.args.self.now.space m₁ v₁ roomy.roomy a c.requires.held (pages_of c.stage-owed.new.self) (noted c.stage-owed.new.self)
          (ap (λ z. data_pages z.blocks) (c.stage-owed.ensures.size ∙ roomy.size)) (c.stage-owed.ensures.after (without v₁.table a.0) (drop_made v₁.table a held₁)) c.requires.holding.0 c.requires.holding.1;
    }

pub returns : goal.returns
returns g c =
    let m = g.C.Chip.meaning c.args.chip.now in
    let m₁ = g.C.Chip.meaning c.make_roomy.new.chip in
    let v = noted c.args.self.now.journal in
    let v₁ = noted c.make_roomy.new.self.journal in
    let D = pages_of c.args.self.now.journal in
    let a = c.args.address in
    let roomy = c.in_ok-make_roomy.ensures in
    let held₁ = still_held D m v c.args.self.now.space m₁ v₁ roomy.roomy a.0 c.requires.held in
    let commit = c.commit_owed.ensures in
    let size = c.stage-owed.ensures.size ∙ roomy.size in
    record {
      size = commit.size ∙ size;
      space = roomy.space;
      evicts = evicts_by D m v c.args.self.now.space m₁ v₁ roomy.roomy a c.requires.held (pages_of c.stage-owed.new.self) (noted c.stage-owed.new.self) c.commit_owed.result
          (g.C.Chip.meaning c.commit_owed.new.chip) (noted c.commit_owed.new.self) (ap (λ z. data_pages z.blocks) size)
          (c.stage-owed.ensures.after (without v₁.table a.0) (drop_made v₁.table a held₁)) commit.commits;
    }
