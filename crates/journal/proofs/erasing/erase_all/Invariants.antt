-- What is left of the row to erase, with the sync behind it, completes what was to be done.
use Rattle.std.proofs.Common.{◌-◌, Result}
use Rattle.device.specs.declared.faults.Fault.{Fault}
use Rattle.device.specs.Chips.{Pages}
use Rattle.journal.specs.Steps.{ErasesRow}
use Rattle.journal.proofs.erasing.erase_all.Given as goal

abbrev pub invariant-loop-b : goal.invariant-loop-b
invariant-loop-b g l =
    (r : Result (Unit {0}) Fault) (m' : Pages)
    → ErasesRow l.b-iterator.start (l.b-iterator.end - l.b-iterator.start) (g.C.Chip.meaning l.chip) r m'
    → ErasesRow l.fn.blocks.start (l.fn.blocks.end - l.fn.blocks.start) (g.C.Chip.meaning l.fn.chip) r m'
