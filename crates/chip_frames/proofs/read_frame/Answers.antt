use Rattle.std.proofs.Common.{◌≡◌, ◌/◌, ◌∙◌, [], length, get_or, arith, rules}
use Rattle.chip_frames.specs.Frames.{be32}
use Rattle.chip_frames.proofs.Parts.{frame_note, frame_data}
use Rattle.chip_frames.proofs.read_frame.Goals as goal

pub returns-clause-note : goal.returns-clause-note
returns-clause-note c =
    let f = get_or c.frames_of.result.now c.args.p [] in
    let e : c.from_be_bytes.result ≡ be32 (get_or f 4 0) (get_or f 5 0) (get_or f 6 0) (get_or f 7 0) = search rules in
    frame_note c.frames_of.result.now (length c.args.image.now / 520) c.args.p c.args.image.now c.frames_of.ensures.frames (omega arith) c.from_be_bytes.result e

pub returns-clause-bytes : goal.returns-clause-bytes
returns-clause-bytes c =
    let e = frame_data c.frames_of.result.now (length c.args.image.now / 520) c.args.p c.args.image.now c.frames_of.ensures.frames (omega arith) in
    c.copy_from_slice.ensures.after ∙ e
