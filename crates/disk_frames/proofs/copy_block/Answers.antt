use Rattle.std.proofs.Common.{◌∙◌}
use Rattle.disk_frames.proofs.Parts.{settled_part, new_part}
use Rattle.disk_frames.proofs.Blockwise.{reads_settled, reads_new}
use Rattle.disk_frames.proofs.copy_block.Goals as goal

pub returns-then-is_unsettled : goal.returns-then-is_unsettled
returns-then-is_unsettled c =
    c.copy_from_slice.ensures.after
    ∙ (new_part c.args.image.now c.frames_of.result.now c.frames_of.ensures.frames c.args.block c.requires.inside
    ∙ reads_new c.args.image.now c.args.block c.requires.inside c.if-is_unsettled.ensures.block)

pub returns-else-is_unsettled : goal.returns-else-is_unsettled
returns-else-is_unsettled c =
    c.copy_from_slice-else-is_unsettled.ensures.after
    ∙ (settled_part c.args.image.now c.frames_of.result.now c.frames_of.ensures.frames c.args.block c.requires.inside
    ∙ reads_settled c.args.image.now c.args.block c.requires.inside c.if-is_unsettled.ensures.block)
