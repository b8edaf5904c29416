use Rattle.recovery.specs.Recovering.{DistinctBelow}
use Rattle.recovery.proofs.checkpoint.distinct_in.Given as goal

abbrev pub invariant-loop-j : goal.invariant-loop-j
invariant-loop-j l = DistinctBelow l.entries l.j
