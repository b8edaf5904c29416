use Rattle.crash.proofs.Examples.{one_sync_example}
use Rattle.crash.proofs.one_sync_example.Goals as goal

pub returns : goal.returns
returns c = one_sync_example
