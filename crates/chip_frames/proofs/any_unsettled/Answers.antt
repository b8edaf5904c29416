use Rattle.std.proofs.Common.{◌≡◌, true, false, get_or, rules, tests}
use Rattle.std.proofs.lemmas.Iterator.{cases_from_any, YieldsList-from_slice}
use Rattle.chip_frames.specs.Frames.{unsettled_state}
use Rattle.chip_frames.specs.Codes.{state_number, state_of}
use Rattle.chip_frames.proofs.Parts.{any_by_frames}
use Rattle.chip_frames.proofs.any_unsettled.Goals as goal

pub returns : goal.returns
returns c =
    let found = cases_from_any _ _ c.any.result (λ x. unsettled_state (state_number (state_of (get_or x 0 0))) ≡ true) (λ x. unsettled_state (state_number (state_of (get_or x 0 0))) ≡ false) c.any.ensures.ran (YieldsList-from_slice c.frames_of.result.now cc) (λ x q k. search (rules, tests)) (λ x q k. search (rules, tests)) in
    any_by_frames c.args.image.now c.args.block.0 _ _ c.place_of-place.ensures.start c.place_of-place.ensures.end c.frames_of.result.now c.frames_of.ensures.frames c.any.result c.frames_of.ensures.count found
