use Rattle.std.proofs.Common.{sym, ◌∙◌, subst}
use Rattle.layout.specs.Geometry.{data_pages}
use Rattle.recovery.specs.Looking.{Stage}
use Rattle.recovery.specs.Recovering.{Active, Recovered, Failed}
use Rattle.recovery.specs.Restoring.{found_of}
use Rattle.recovery.proofs.Lookwise.{quiet_then}
use Rattle.recovery.proofs.Wholly.{moved}
use Rattle.recovery.proofs.reader.Reader.recover.Goals as goal

pub restore-requires : goal.restore-requires
restore-requires g c =
    let D = data_pages c.args.self.now.geometry.blocks in
    let m = g.C.Chip.meaning c.args.self.now.chip.now in
    let m₁ = g.C.Chip.meaning c.active_area.new.self.chip.now in
    let active = c.in_ok-active.ensures in
    record {
      active = rw active.same.1 (subst (λ s. Active D s c.in_ok-active.active.area c.in_ok-active.active.number) (sym (moved m m₁ active.quiet)) active.found.1);
    }

pub returns : goal.returns
returns g c =
    let D = data_pages c.args.self.now.geometry.blocks in
    let m = g.C.Chip.meaning c.args.self.now.chip.now in
    let m₁ = g.C.Chip.meaning c.active_area.new.self.chip.now in
    let m₂ = g.C.Chip.meaning c.restore.new.self.chip.now in
    let active = c.in_ok-active.ensures in
    let rest = c.restore.ensures in
    record {
      same = (rest.same.0 ∙ active.same.0, rest.same.1 ∙ active.same.1);
      quiet = quiet_then m m₁ m₂ active.quiet rest.quiet;
      found = subst (λ s. Stage (λ f. Recovered D s (found_of f)) (Failed D s) c.restore.result m₂) (moved m m₁ active.quiet) (rw active.same.1 at rest.found);
    }
