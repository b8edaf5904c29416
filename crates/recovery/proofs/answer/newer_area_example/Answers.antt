use Rattle.recovery.proofs.OneAnswer.{zero_follows_two}
use Rattle.recovery.proofs.answer.newer_area_example.Goals as goal

pub returns : goal.returns
returns c = zero_follows_two
