-- A commit with 64 records staged, else nothing.
use Rattle.std.proofs.Common.{sym, refl}
use Rattle.journal.specs.Notes.{noted, pages_of}
use Rattle.engine.proofs.Roomily.{roomy_commits, roomy_stays}
use Rattle.engine.proofs.memory.Memory.make_roomy.Goals as goal

pub returns-then-is_full : goal.returns-then-is_full
returns-then-is_full g c = record {
  size = c.commit.ensures.size;
  space = refl;
  roomy = roomy_commits (pages_of c.args.self.now.journal) (g.C.Chip.meaning c.args.chip.now) (noted c.args.self.now.journal) c.args.self.now.space c.commit.result
      (g.C.Chip.meaning c.commit.new.chip) (noted c.commit.new.self) (sym c.if-is_full.ensures) c.commit.ensures.commits;
}

pub returns-else-is_full : goal.returns-else-is_full
returns-else-is_full g c = record {
  size = refl;
  space = refl;
  roomy = roomy_stays (pages_of c.args.self.now.journal) (g.C.Chip.meaning c.args.chip.now) (noted c.args.self.now.journal) c.args.self.now.space
      (sym c.if-is_full.ensures);
}
