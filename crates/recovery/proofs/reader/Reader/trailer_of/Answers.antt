use Rattle.std.proofs.Common.{subst}
use Rattle.layout.specs.Geometry.{data_pages}
use Rattle.recovery.specs.Looking.{shown, Saw}
use Rattle.recovery.proofs.Trailerwise.{judged_stage}
use Rattle.recovery.proofs.reader.Reader.trailer_of.Goals as goal

pub returns : goal.returns
returns g c =
    let m = g.C.Chip.meaning c.args.self.now.chip.now in
    let seen = c.in_ok-seen.ensures in
    record {
      same = seen.same;
      quiet = seen.quiet;
      found = judged_stage (data_pages c.args.self.now.geometry.blocks) (shown m) c.args.area c.judge.result (g.C.Chip.meaning c.look.new.self.chip.now) seen.saw.0
          (c.judge.ensures _ (subst (λ p. Saw (shown m p) c.in_ok-seen.seen c.look.new.self.page) c.trailer_page.ensures seen.saw.1));
    }
