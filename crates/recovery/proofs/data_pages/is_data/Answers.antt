use Rattle.std.proofs.Common.{subst}
use Rattle.recovery.specs.Looking.{Saw}
use Rattle.recovery.proofs.Datawise.{data_or_not}
use Rattle.recovery.proofs.data_pages.is_data.Goals as goal

pub returns-in-Held : goal.returns-in-Held
returns-in-Held c page bytes saw =
    rw c.eq.ensures (data_or_not page c.in-Held.note bytes c.args.address c.data_address.result (subst (λ z. Saw page z bytes) c.in-Held.is saw) c.data_address.ensures)
