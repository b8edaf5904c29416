use Rattle.device.proofs.Chipwise.{chip_cuts}
use Rattle.device.proofs.laws.chip_cuts_stay_within_what_was_wanted.Goals as goal

pub returns : goal.returns
returns c = chip_cuts
