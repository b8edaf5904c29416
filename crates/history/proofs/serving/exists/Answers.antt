use Rattle.std.proofs.Common.{arith}
use Rattle.history.proofs.Answering.{exists_served}
use Rattle.history.proofs.serving.exists.Goals as goal

pub returns : goal.returns
returns g c =
    exists_served g.C.Chip.meaning c.args.first.0 c.args.len c.args.cache.now c.args.scratch.now c.exists.new.marks c.copy_from_slice.new.self _ _
    (omega arith) c.in_ok-exists.ensures c.exists.auto.marks c.copy_from_slice.ensures.after
