use Rattle.recovery.proofs.OneAnswer.{same_number_refused}
use Rattle.recovery.proofs.answer.same_numbers_example.Goals as goal

pub returns : goal.returns
returns c = same_number_refused
