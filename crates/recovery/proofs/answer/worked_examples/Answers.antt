use Rattle.recovery.proofs.Worked.{worked_examples}
use Rattle.recovery.proofs.answer.worked_examples.Goals as goal

pub returns : goal.returns
returns c = worked_examples
