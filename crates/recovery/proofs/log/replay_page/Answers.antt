use Rattle.std.proofs.Common.{◌≡◌, Some, None, subst, arith}
use Rattle.std.proofs.lemmas.Result.{err_from_is_err_and}
use Rattle.layout.specs.Pages.{LogRead}
use Rattle.table.specs.Tables.{replayed}
use Rattle.table.specs.Views.{table_of}
use Rattle.recovery.proofs.Logwise.{page_stuck}
use Rattle.recovery.proofs.log.replay_page.Goals as goal

pub returns-in_err-replay : goal.returns-in_err-replay
returns-in_err-replay c =
    let records = c.in_ok-records.records in
    let some : c.read_log.result ≡ Some records = grind arith in
    let log = subst (λ o. LogRead c.args.note c.args.bytes.now o) some c.read_log.ensures in
    let stuck = subst (λ rs. replayed (Some (table_of c.args.table.now)) rs ≡ None) c.deref.ensures.0 c.in_err-replay.ensures in
    let p = err_from_is_err_and c.from_residual-in_err-replay.result c.from_residual-in_err-replay.ensures.1 in
    rw p.1 (page_stuck c.args.note c.args.bytes.now records (table_of c.args.table.now) log stuck)
