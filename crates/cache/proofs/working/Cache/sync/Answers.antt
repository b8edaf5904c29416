-- What the memory's flush answers and leaves is handed on. No step is named here, so another call in place of the flush fails by what it does.
use Rattle.std.proofs.Common.{arith}
use Rattle.std.proofs.lemmas.Grind.{common_steps}
use Rattle.cache.proofs.working.Cache.sync.Goals as goal

pub returns-clause-call : goal.returns-clause-call
returns-clause-call g c = rw (← c.self.view_is) (grind (arith, common_steps))
