-- The page that was found holds the address, so the address is held.
use Rattle.std.proofs.Common.{subst}
use Rattle.table.specs.Views.{AloneAt}
use Rattle.journal.specs.Notes.{noted}
use Rattle.cache.proofs.Calling.{found_held}
use Rattle.cache.proofs.working.Cache.page_of.Goals as goal

pub returns-in-Some : goal.returns-in-Some
returns-in-Some g c =
    let a = c.args.address.0 in
    let p = c.in-Some.page.0 in
    let at = subst (λ t. AloneAt t a p) c.table.ensures c.in-Some.ensures in
    rw (← c.self.view_is) (found_held (noted c.self.inside.memory.journal).table a p at, at)
