use Rattle.std.proofs.Common.{arith}
use Rattle.history.proofs.Answering.{read_served}
use Rattle.history.proofs.serving.read.Goals as goal

pub returns : goal.returns
returns g c =
    let served = c.in_ok-read.ensures in
    record {
      size = served.size;
      serves =
          read_served g.C.Chip.meaning c.args.address.0 c.args.len c.args.cache.now c.read.new.self c.args.scratch.now c.read.new.buf
          c.copy_from_slice.new.self _ (omega arith) served.call c.read.auto.buf c.copy_from_slice.ensures.after;
    }
