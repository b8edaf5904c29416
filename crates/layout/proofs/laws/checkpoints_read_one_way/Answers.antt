use Rattle.layout.proofs.Unique.{one_checkpoint}
use Rattle.layout.proofs.laws.checkpoints_read_one_way.Goals as goal

pub returns : goal.returns
returns c = one_checkpoint
