use Rattle.std.proofs.Common.{◌≡◌, ◌+◌, ◌-◌, ◌*◌, length, take, drop, set, ap, ◌∙◌, subst, arith, rules}
use borrow.Rule.Slice.PartMut.{put_mid}
use Rattle.disk_frames.specs.Frames.{ChangesOne, written_frame}
use Rattle.disk_frames.proofs.Parts.{placed, written_here}
use Rattle.disk_frames.proofs.write_block.Goals as goal

pub returns : goal.returns
returns c =
    let xs = c.args.image.now in
    let b = c.args.block in
    let k = 1026 * c.args.block + 1026 - 1026 * c.args.block in
    let frame = take k (drop (1026 * b) xs) in
    let body = c.copy_from_slice.new.self in
    let n = length frame - 514 in
    let f : length frame ≡ 1026 = search rules in
    let e : body ≡ c.args.bytes.now = c.copy_from_slice.ensures.after in
    let w : length body ≡ 512 = ap length e ∙ c.requires.whole in
    let long : length (set (put_mid 514 n frame body) 0 1) ≡ 1026 = search rules in
    let here = written_here frame body n f (omega arith) w in
    subst (λ z. ChangesOne (written_frame z) b xs (put_mid (1026 * b) k xs (set (put_mid 514 n frame body) 0 1))) e
    (placed xs b k c.requires.inside (omega arith) (written_frame body) (set (put_mid 514 n frame body) 0 1) long here)
