use Rattle.layout.proofs.Unique.{one_log}
use Rattle.layout.proofs.laws.log_pages_read_one_way.Goals as goal

pub returns : goal.returns
returns c = one_log
