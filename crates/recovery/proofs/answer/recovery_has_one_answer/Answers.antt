use Rattle.recovery.proofs.OneAnswer.{one_answer}
use Rattle.recovery.proofs.answer.recovery_has_one_answer.Goals as goal

pub returns : goal.returns
returns c = one_answer
