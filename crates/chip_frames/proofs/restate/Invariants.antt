use Rattle.chip_frames.specs.Frames.{state_at, fate_at}
use Rattle.chip_frames.specs.Codes.{Changes}
use Rattle.chip_frames.proofs.Restating.{RestatedBelow}
use Rattle.chip_frames.proofs.restate.Given as goal

abbrev pub invariant-loop-p : goal.invariant-loop-p
invariant-loop-p g l =
    RestatedBelow l.initial.image (λ q s. Changes (goal.F-post g l.change) (state_at l.initial.image q) (fate_at l.initial.image q) s) l.p l.image
