use Rattle.device.proofs.Diskwise.{disk_cuts}
use Rattle.device.proofs.laws.disk_cuts_stay_within_what_was_wanted.Goals as goal

pub returns : goal.returns
returns c = disk_cuts
