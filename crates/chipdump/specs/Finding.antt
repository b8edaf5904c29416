-- What is found on a chip: its power is cut and comes back, and what its pages then say is read back.
use Rattle.std.specs.Prelude.{◌≡◌, Ok, Err, Result}
use Rattle.device.specs.declared.faults.Fault.{Fault}
use Rattle.device.specs.Chips.{Pages, Powers}
use Rattle.recovery.specs.declared.restored.Restored.{Restored}
use Rattle.recovery.specs.Restoring.{Restores}

-- Recovery reads the chip as the cut left it; if power does not come back, that is the answer.
abbrev pub ReadBack : Result (Unit {0}) Fault → Pages → Result Restored Fault → Pages → Type 0
ReadBack (Ok _) cut r n = Restores cut r n
ReadBack (Err f) cut r n = (r ≡ Err f) × (n ≡ cut)

pub record Finds (m : Pages) (r : Result Restored Fault) (n : Pages) : Type 0 where
  pub power : Result (Unit {0}) Fault
  pub cut : Pages
  pub powers : Powers m power cut
  pub reads : ReadBack power cut r n
