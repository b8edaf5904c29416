use Rattle.std.proofs.Common.{eqb, ap, sym, ◌∙◌}
use Rattle.disk_frames.proofs.Parts.{state_byte}
use Rattle.disk_frames.proofs.Blockwise.{unsettled_by_state}
use Rattle.disk_frames.proofs.is_unsettled.Goals as goal

pub returns-clause-state : goal.returns-clause-state
returns-clause-state c = ap (λ s. eqb s 1) (state_byte c.args.image.now c.frames_of.result.now c.frames_of.ensures.frames c.args.block c.requires)

pub returns-clause-block : goal.returns-clause-block
returns-clause-block c =
    ap (λ s. eqb s 1) (state_byte c.args.image.now c.frames_of.result.now c.frames_of.ensures.frames c.args.block c.requires)
    ∙ sym (unsettled_by_state c.args.image.now c.args.block c.requires)
