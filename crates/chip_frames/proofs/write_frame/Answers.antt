use Rattle.std.proofs.Common.{◌≡◌, ◌+◌, ◌-◌, ◌*◌, [], ◌∷◌, length, get_or, set, take, drop, ap, ◌∙◌, arith, rules}
use borrow.Rule.Slice.PartMut.{put_mid}
use Rattle.std.proofs.lemmas.List.{get_or-take, get_or-drop}
use Rattle.chip_frames.proofs.Framing.{filled, filled_length, filled_state, filled_fate, filled_head, filled_data, written_byte, written_note, written_data, written_others}
use Rattle.chip_frames.proofs.write_frame.Goals as goal

pub returns : goal.returns
returns c =
    let xs = c.args.image.now in
    let i = 520 * c.args.p in
    let k = 520 * c.args.p + 520 - 520 * c.args.p in
    let frame = take k (drop i xs) in
    let head = c.copy_from_slice.new.self in
    let bytes = c.copy_from_slice-2.new.self in
    let n = length (put_mid 2 6 (set frame 0 c.number.result) head) - 8 in
    let e : k ≡ 520 = omega arith in
    let f : length frame ≡ 520 = search rules in
    let h : length head ≡ 6 = search rules in
    let b : length bytes ≡ 512 = search rules in
    let m : n ≡ 512 = search rules in
    let ys = filled frame head bytes c.number.result n f m h b in
    let y = filled_length frame head bytes c.number.result n f m h b in
    let at = written_byte xs ys i k e c.requires.inside y in
    record {
      state = at i 0 (omega arith) (omega arith) ∙ (filled_state frame head bytes c.number.result n f m h b ∙ c.number.ensures);
      fate = at (i + 1) 1 (omega arith) (omega arith) ∙ (filled_fate frame head bytes c.number.result n f m h b ∙ (get_or-take k (drop i xs) 1 0 (omega arith) ∙ get_or-drop i xs 1 0));
      spare = written_note xs ys i k e c.requires.inside y c.args.note.0 c.args.note.1 c.args.note.2 head (omega arith) (filled_head frame head bytes c.number.result n f m h b)
          (c.copy_from_slice.ensures.after
          ∙ ap (λ z. c.args.note.0 ∷ c.args.note.1 ∷ get_or z 0 0 ∷ get_or z 1 0 ∷ get_or z 2 0 ∷ get_or z 3 0 ∷ []) c.to_be_bytes.ensures);
      content = written_data xs ys i k e c.requires.inside y ∙ (filled_data frame head bytes c.number.result n f m h b ∙ c.copy_from_slice-2.ensures.after);
      others = written_others xs ys i k e c.requires.inside y;
    }
