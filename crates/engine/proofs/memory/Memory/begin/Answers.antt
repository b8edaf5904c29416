use Rattle.engine.proofs.Waking.{powered}
use Rattle.engine.proofs.memory.Memory.begin.Goals as goal

pub form-requires : goal.form-requires
form-requires g c =
    let on = c.in_ok-power_on.ensures in
    let p = powered c.args.geometry.blocks (g.C.Chip.meaning c.args.chip.now) (g.C.Chip.meaning c.power_on.new.self) c.requires.fits on.rules in
    record { on = p.0; fits = p.1; settled = p.2 }
