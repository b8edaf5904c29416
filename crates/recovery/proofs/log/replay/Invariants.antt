use Rattle.std.proofs.Common.{◌≡◌, take, Some}
use Rattle.table.specs.Tables.{replayed}
use Rattle.table.specs.Views.{table_of}
use Rattle.recovery.proofs.log.replay.Given as goal

abbrev pub invariant-loop-k : goal.invariant-loop-k
invariant-loop-k l = replayed (Some (table_of l.initial.table)) (take l.k l.records) ≡ Some (table_of l.table)
