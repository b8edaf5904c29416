use Rattle.recovery.proofs.ReadBack.{reads_back}
use Rattle.recovery.proofs.answer.what_was_written_is_read_back.Goals as goal

pub returns : goal.returns
returns c = reads_back
