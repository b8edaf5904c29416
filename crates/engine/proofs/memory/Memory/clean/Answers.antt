use Rattle.std.proofs.Common.{◌∙◌}
use Rattle.table.specs.Tables.{cleaned}
use Rattle.journal.specs.Notes.{noted, pages_of}
use Rattle.engine.proofs.Remarking.{dirty_held, still_held, room_made, clean_made, cleans}
use Rattle.engine.proofs.memory.Memory.clean.Goals as goal

pub stage_for_later-requires : goal.stage_for_later-requires
stage_for_later-requires g c =
    let m = g.C.Chip.meaning c.args.chip.now in
    let m₁ = g.C.Chip.meaning c.make_roomy.new.chip in
    let v = noted c.args.self.now.journal in
    let v₁ = noted c.make_roomy.new.self.journal in
    let D = pages_of c.args.self.now.journal in
    let a = c.args.address in
    let made = c.in_ok-make_roomy.ensures.roomy in
    let there = dirty_held v.table a.0 c.requires.dirty in
    record {
      room = room_made D m v c.args.self.now.space m₁ v₁ made c.requires.holding.0 c.requires.holding.1;
      fits = (cleaned v₁.table a.0, clean_made v₁.table a (still_held D m v c.args.self.now.space m₁ v₁ made a.0 there));
    }

pub returns : goal.returns
returns g c =
    let m = g.C.Chip.meaning c.args.chip.now in
    let m₁ = g.C.Chip.meaning c.make_roomy.new.chip in
    let v = noted c.args.self.now.journal in
    let v₁ = noted c.make_roomy.new.self.journal in
    let D = pages_of c.args.self.now.journal in
    let a = c.args.address in
    let roomy = c.in_ok-make_roomy.ensures in
    let there = dirty_held v.table a.0 c.requires.dirty in
    let held₁ = still_held D m v c.args.self.now.space m₁ v₁ roomy.roomy a.0 there in
    record {
      size = c.stage_for_later.ensures.size ∙ roomy.size;
      space = roomy.space;
      cleans = cleans D m v c.args.self.now.space m₁ v₁ roomy.roomy a there (noted c.stage_for_later.new.self) (c.stage_for_later.ensures.after (cleaned v₁.table a.0) (clean_made v₁.table a held₁));
    }
