use Rattle.std.proofs.Common.{◌≡◌, sym, subst, arith}
use Rattle.disk_frames.specs.Frames.{frame_at, with_new_kept}
use Rattle.disk_frames.proofs.Changes.{new_kept}
use Rattle.disk_frames.proofs.Parts.{settled_new_here, settled_old_here}
use Rattle.disk_frames.proofs.settle_frame.Goals as goal
use Rattle.disk_frames.proofs.settle_frame.Goals.{then-with_new, else-with_new}

pub returns-after-with_new : goal.returns-after-with_new
returns-after-with_new c =
    let xs = c.args.frame.now in
    elim c.if-with_new.branch [
      | then-with_new w ↦ settled_new_here xs _ _ (omega arith) c.if-frame-eq-IS_UNSETTLED.true w.if-with_new.true
          (subst (λ z. frame_at z 0 ≡ with_new_kept (frame_at xs 0)) (sym w.frame-is)
          (new_kept xs 0 (omega arith) w.copy_within.new.self _ (omega arith) w.copy_within.ensures.len
          w.copy_within.ensures.by_index.0 w.copy_within.ensures.by_index.1 w.copy_within.ensures.by_index.2 0))
      | else-with_new w ↦ settled_old_here xs _ _ (omega arith) c.if-frame-eq-IS_UNSETTLED.true w.if-with_new.false w.frame-is
    ]
