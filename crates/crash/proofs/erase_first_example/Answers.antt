use Rattle.crash.proofs.Examples.{erase_first_example}
use Rattle.crash.proofs.erase_first_example.Goals as goal

pub returns : goal.returns
returns c = erase_first_example
