use Rattle.std.proofs.Common.{◌+◌, ◌-◌, ◌*◌, refl, subst, arith, rules}
use Rattle.disk_frames.specs.Frames.{Frame, settled_as}
use Rattle.disk_frames.proofs.Parts.{placed, settled_more}
use Rattle.disk_frames.proofs.settle_where.Goals as goal

pub loop-b-preserved : goal.loop-b-preserved
loop-b-preserved g c =
    let ys = c.loop-b.image in
    let b = c.loop-b.b in
    let k = 1026 * b + 1026 - 1026 * b in
    settled_more _ _ ys _ b (settled_as c.with_new-new.result)
    (placed ys b k (omega arith) (omega arith) (settled_as c.with_new-new.result) c.settle_frame.new.frame (search rules) c.settle_frame.ensures)
    (c.with_new-new.result, subst (λ (f : Frame). goal.F-post g c.args.with_new f.fate c.with_new-new.result) (c.loop-b.invariant.rest b (omega arith)) c.with_new-new.ensures, refl)
    c.loop-b.invariant

pub returns-clause-inside : goal.returns-clause-inside
returns-clause-inside g c = λ q h. c.loop-b.invariant.done q (omega arith)
