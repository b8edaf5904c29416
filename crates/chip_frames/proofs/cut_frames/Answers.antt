use Rattle.std.proofs.Common.{◌≡◌, ◌∙◌, rules}
use Rattle.chip_frames.specs.Codes.{state_number, state_of, fate_number, fate_of}
use Rattle.chip_frames.specs.Frames.{state_at, fate_at, cut_state}
use Rattle.chip_frames.proofs.Numbers.{cut_number}
use Rattle.chip_frames.proofs.cut_frames.Goals as goal

pub returns : goal.returns
returns c = record {
  states = λ p h.
      let k = c.restate.ensures.states p h in
      let call = k.1 in
      let e : state_number k.0 ≡ cut_state (state_number (state_of (state_at c.args.image.now p))) (fate_number (fate_of (fate_at c.args.image.now p))) = search rules in
      k.2 ∙ (e ∙ cut_number (state_at c.args.image.now p) (fate_at c.args.image.now p));
  others = c.restate.ensures.others;
}
