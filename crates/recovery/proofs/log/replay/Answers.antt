use Rattle.std.proofs.lemmas.Result.{err_from_is_err_and}
use Rattle.std.proofs.Common.{arith}
use Rattle.table.specs.Views.{table_of}
use Rattle.recovery.proofs.Logwise.{replay_more, replay_stuck, replay_all}
use Rattle.recovery.proofs.log.replay.Goals as goal

pub returns-in_err-apply : goal.returns-in_err-apply
returns-in_err-apply c =
    let p = err_from_is_err_and c.from_residual.result c.from_residual.ensures.1 in
    rw p.1 (replay_stuck (table_of c.args.table.now) (table_of c.loop-k.table) c.args.records.now c.loop-k.k c.loop-k.invariant _ c.loop-k-test.true c.in_err-apply.ensures.0)

pub loop-k-preserved : goal.loop-k-preserved
loop-k-preserved c =
    replay_more (table_of c.args.table.now) (table_of c.loop-k.table) c.args.records.now c.loop-k.k c.loop-k.invariant (table_of c.apply.new.self) _ c.loop-k-test.true c.in_ok-apply.ensures

pub returns : goal.returns
returns c = replay_all (table_of c.args.table.now) (table_of c.loop-k.table) c.args.records.now c.loop-k.k c.loop-k.invariant (omega arith)
