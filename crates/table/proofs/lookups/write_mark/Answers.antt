use Rattle.std.proofs.Common.{rules, arith}
use Rattle.table.proofs.Marking.{mark_written}
use Rattle.table.proofs.lookups.write_mark.Goals as goal

pub returns-then-k-out : goal.returns-then-k-out
returns-then-k-out c =
    mark_written c.args.out.now c.args.first.0 c.args.e c.number.result (search rules) (search rules) (omega arith) c.number.ensures
