use Rattle.std.proofs.Common.{◌+◌, ◌*◌, arith}
use Rattle.chip_frames.proofs.Restating.{restated_more, changes_here}
use Rattle.chip_frames.proofs.restate.Goals as goal

pub loop-p-preserved : goal.loop-p-preserved
loop-p-preserved g c =
    restated_more _ _ _ c.loop-p.p c.number.result (omega arith)
    (changes_here (goal.F-post g c.args.change) _ _ _ _ _ _ c.change.result _ c.from.ensures c.from-in-loop-p.ensures (c.loop-p.invariant.rest c.loop-p.p (omega arith))
    (c.loop-p.invariant.others (520 * c.loop-p.p + 1) (λ h. omega arith)) c.change.ensures c.number.ensures)
    c.loop-p.invariant
