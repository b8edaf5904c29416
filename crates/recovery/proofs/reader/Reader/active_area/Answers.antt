use Rattle.std.proofs.Common.{◌∙◌}
use Rattle.std.proofs.lemmas.Result.{err_from_is_err_and}
use Rattle.layout.specs.Geometry.{data_pages}
use Rattle.recovery.proofs.Lookwise.{quiet_then}
use Rattle.recovery.proofs.Trailerwise.{second_failed, both_found}
use Rattle.recovery.proofs.reader.Reader.active_area.Goals as goal

pub returns-in_err-two : goal.returns-in_err-two
returns-in_err-two g c =
    let m = g.C.Chip.meaning c.args.self.now.chip.now in
    let m₁ = g.C.Chip.meaning c.trailer_of.new.self.chip.now in
    let m₂ = g.C.Chip.meaning c.trailer_of-2.new.self.chip.now in
    let one = c.in_ok-one.ensures in
    let two = c.in_err-two.ensures in
    let p = err_from_is_err_and c.from_residual-in_err-two.result c.from_residual-in_err-two.ensures.1 in
    record {
      same = (two.same.0 ∙ one.same.0, two.same.1 ∙ one.same.1);
      quiet = quiet_then m m₁ m₂ one.quiet two.quiet;
      found = rw (p.1, p.2) (second_failed (data_pages c.args.self.now.geometry.blocks) m m₁ m₂ c.in_ok-one.one one.quiet one.found.1 _ (rw one.same.1 at two.found));
    }

pub returns : goal.returns
returns g c =
    let m = g.C.Chip.meaning c.args.self.now.chip.now in
    let m₁ = g.C.Chip.meaning c.trailer_of.new.self.chip.now in
    let m₂ = g.C.Chip.meaning c.trailer_of-2.new.self.chip.now in
    let one = c.in_ok-one.ensures in
    let two = c.in_ok-two.ensures in
    record {
      same = (two.same.0 ∙ one.same.0, two.same.1 ∙ one.same.1);
      quiet = quiet_then m m₁ m₂ one.quiet two.quiet;
      found = both_found (data_pages c.args.self.now.geometry.blocks) m m₁ m₂ c.in_ok-one.one one.quiet one.found.1 c.in_ok-two.two c.choose.result (rw one.same.1 at two.found) (rw (two.same.1 ∙ one.same.1) at c.choose.ensures);
    }
