use Rattle.std.proofs.Common.{refl}
use Rattle.journal.specs.Notes.{noted, pages_of}
use Rattle.engine.proofs.Flushing.{flushes}
use Rattle.engine.proofs.memory.Memory.flush.Goals as goal

pub returns : goal.returns
returns g c =
    let journal = c.args.self.now.journal in
    record {
      size = c.commit.ensures.size;
      space = refl;
      flushes = flushes (pages_of journal) (g.C.Chip.meaning c.args.chip.now) (noted journal) c.args.self.now.space c.commit.result (g.C.Chip.meaning c.commit.new.chip)
          (noted c.commit.new.self) c.commit.ensures.commits;
    }
