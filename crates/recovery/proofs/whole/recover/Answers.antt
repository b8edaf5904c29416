use Rattle.std.proofs.Common.{rules}
use Rattle.recovery.specs.Restoring.{Restores}
use Rattle.recovery.proofs.Wholly.{restores}
use Rattle.recovery.proofs.whole.recover.Goals as goal

pub returns-clause-found : goal.returns-clause-found
returns-clause-found g c =
    let geometry = c.in_ok-geometry.ensures in
    let found : Restores (g.C.Chip.meaning c.args.chip.now) c.recover.result (g.C.Chip.meaning c.recover.new.self.chip.now) =
    restores (g.C.Chip.meaning c.args.chip.now) (g.C.Chip.meaning c.recover.new.self.chip.now) c.blocks-2.result c.in_ok-geometry.geometry.blocks c.recover.result
    c.blocks-2.ensures.number geometry.0 geometry.1 c.recover.ensures.found in
    search rules
