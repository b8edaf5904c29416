-- The frames so far are settled.
use Rattle.std.proofs.Common.{◌≡◌, Bool}
use Rattle.disk_frames.specs.Frames.{frame_of, settled_as}
use Rattle.disk_frames.proofs.Parts.{SettledBelow}
use Rattle.disk_frames.proofs.settle_where.Given as goal

abbrev pub invariant-loop-b : goal.invariant-loop-b
invariant-loop-b g l =
    SettledBelow (λ q f. (new : Bool) × goal.F-post g l.with_new (frame_of l.initial.image q).fate new × (f ≡ settled_as new (frame_of l.initial.image q))) l.initial.image l.b l.image
