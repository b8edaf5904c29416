use Rattle.std.proofs.Common.{subst}
use Rattle.std.proofs.lemmas.Result.{err_from_is_err_and}
use Rattle.table.specs.Views.{table_of}
use Rattle.recovery.specs.Looking.{Saw}
use Rattle.recovery.proofs.Logwise.{not_stepped}
use Rattle.recovery.proofs.log.step.Goals as goal

pub returns-in_err-replay_page-in-Held : goal.returns-in_err-replay_page-in-Held
returns-in_err-replay_page-in-Held c page saw =
    let p = err_from_is_err_and c.from_residual.result c.from_residual.ensures.1 in
    rw p.1 (not_stepped page c.in-Held.note c.args.bytes.now c.args.j (table_of c.args.table.now) c.args.next
    (subst (λ z. Saw page z c.args.bytes.now) c.in-Held.is saw) c.in_err-replay_page-in-Held.ensures)
