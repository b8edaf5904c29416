use Rattle.crash.proofs.Cuts.{safe_steps}
use Rattle.crash.proofs.steps_are_safe.Goals as goal

pub returns : goal.returns
returns c = safe_steps
