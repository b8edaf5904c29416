use Rattle.device.proofs.Chipwise.{chip_reads}
use Rattle.device.proofs.laws.chip_reads_after_a_call.Goals as goal

pub returns : goal.returns
returns c = chip_reads
