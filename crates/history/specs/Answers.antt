-- What a call of a run answered: what it was served with, or the fault.
use Rattle.std.specs.Prelude.{Result}
use Rattle.device.specs.declared.faults.Fault.{Fault}
use Rattle.history.specs.declared.calls.Served.{Served}

abbrev pub Answer : Type 0
Answer = Result Served Fault
