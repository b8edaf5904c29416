use Rattle.crash.proofs.Orders.{one_sync_loses}
use Rattle.crash.proofs.log_and_data_under_one_sync_lose.Goals as goal

pub returns : goal.returns
returns c = one_sync_loses
