use Rattle.std.proofs.Common.{◌≡◌, ◌-◌, take, drop, ◌∙◌, rules}
use Rattle.chip_frames.specs.Codes.{state_number, state_of}
use Rattle.chip_frames.specs.Frames.{state_at, erased_state}
use Rattle.chip_frames.proofs.Numbers.{erased_number}
use Rattle.chip_frames.proofs.Parts.{part_erased}
use Rattle.chip_frames.proofs.erase_frames.Goals as goal

pub returns : goal.returns
returns c =
    let start = c.place_of-place.result.start in
    let part = take (c.place_of-place.result.end - start) (drop start c.args.image.now) in
    part_erased c.args.image.now c.args.block.0 _ _ c.place_of-place.ensures.start c.place_of-place.ensures.end c.restate.new.image c.restate.auto.image
    (λ q h.
    let k = c.restate.ensures.states q h in
    let call = k.1 in
    let e : state_number k.0 ≡ erased_state (state_number (state_of (state_at part q))) = search rules in
    k.2 ∙ (e ∙ erased_number (state_at part q)))
    c.restate.ensures.others
