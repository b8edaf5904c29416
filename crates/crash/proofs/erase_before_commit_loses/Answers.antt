use Rattle.crash.proofs.Orders.{erase_first_loses}
use Rattle.crash.proofs.erase_before_commit_loses.Goals as goal

pub returns : goal.returns
returns c = erase_first_loses
