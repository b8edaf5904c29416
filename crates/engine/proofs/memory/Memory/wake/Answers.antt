use Rattle.std.proofs.lemmas.Result.{err_from_is_err_and}
use Rattle.layout.specs.Geometry.{data_pages}
use Rattle.recovery.proofs.Lookwise.{quiet_then}
use Rattle.engine.proofs.Waking.{recovery_dark, looked_lost, awake}
use Rattle.engine.proofs.memory.Memory.wake.Goals as goal

pub returns-in_err-found : goal.returns-in_err-found
returns-in_err-found g c =
    let m = g.C.Chip.meaning c.args.chip.now in
    let m₁ = g.C.Chip.meaning c.power_on.new.self in
    let m₂ = g.C.Chip.meaning c.recover.new.chip in
    let geometry = c.args.geometry in
    let on = c.in_ok-power_on.ensures in
    let found = c.in_err-found.ensures in
    let p = err_from_is_err_and c.from_residual-in_err-found.result c.from_residual-in_err-found.ensures.1 in
    record {
      wakes = rw (p.1, p.2) (recovery_dark m m₁ m₂ on.rules found.quiet geometry.blocks _ c.requires.fits geometry.enough geometry.few found.found);
    }

pub returns-in_err-space : goal.returns-in_err-space
returns-in_err-space g c =
    let m = g.C.Chip.meaning c.args.chip.now in
    let m₁ = g.C.Chip.meaning c.power_on.new.self in
    let m₂ = g.C.Chip.meaning c.recover.new.chip in
    let m₃ = g.C.Chip.meaning c.scan.new.chip in
    let on = c.in_ok-power_on.ensures in
    let found = c.in_ok-found.ensures in
    let seen = c.in_err-space.ensures in
    let p = err_from_is_err_and c.from_residual-in_err-space.result c.from_residual-in_err-space.ensures.1 in
    record {
      wakes = rw (p.1, p.2) (looked_lost m m₁ m₃ on.rules (quiet_then m₁ m₂ m₃ found.quiet seen.quiet) (data_pages c.args.geometry.blocks) _ seen.found);
    }

pub returns : goal.returns
returns g c =
    let m = g.C.Chip.meaning c.args.chip.now in
    let m₁ = g.C.Chip.meaning c.power_on.new.self in
    let m₂ = g.C.Chip.meaning c.recover.new.chip in
    let m₃ = g.C.Chip.meaning c.scan.new.chip in
    let geometry = c.args.geometry in
    let on = c.in_ok-power_on.ensures in
    let found = c.in_ok-found.ensures in
    let seen = c.in_ok-space.ensures in
    record {
      wakes = (
        c.recovered.ensures.size,
        awake geometry.blocks m m₁ m₂ m₃ c.requires.fits geometry.enough geometry.few on.rules found.quiet seen.quiet c.in_ok-found.found c.recovered.result
            c.in_ok-space.space found.found seen.found.0 seen.found.1.0 seen.found.1.1 c.recovered.ensures.noted,
      );
    }
