-- Every frame is changed, and so is every block.
use Rattle.std.proofs.Common.{◌≡◌, true, subst, rules}
use Rattle.disk_frames.specs.Frames.{frame_of, settled_as, settled_frame}
use Rattle.disk_frames.proofs.Parts.{all_changed}
use Rattle.disk_frames.proofs.Blockwise.{blocks_settled}
use Rattle.disk_frames.proofs.settle_blocks.Goals as goal

pub returns-clause-frames : goal.returns-clause-frames
returns-clause-frames c =
    all_changed settled_frame c.args.image.now c.settle_where.new.image
    (λ q h.
    let k = c.settle_where.ensures.inside q h in
    let call = k.1 in
    let e : k.0 ≡ true = search rules in
    subst (λ z. frame_of c.settle_where.new.image q ≡ settled_as z (frame_of c.args.image.now q)) e k.2)
    c.settle_where.ensures.beyond

pub returns-clause-blocks : goal.returns-clause-blocks
returns-clause-blocks c = blocks_settled c.args.image.now c.settle_where.new.image c.settle_where.auto.image (returns-clause-frames c)
