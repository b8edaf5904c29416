-- What the memory's evict answers and leaves is handed on.
use Rattle.std.proofs.Common.{◌≡◌, None, sym, ap, ◌∙◌, subst}
use Rattle.journal.specs.Notes.{noted, pages_of}
use Rattle.engine.specs.Works.{Evicts}
use Rattle.cache.specs.Refusals.{unless_off, held_refusal}
use Rattle.cache.proofs.Calling.{on_refusal, answered}
use Rattle.cache.proofs.working.Cache.evict.Goals as goal

pub returns-clause-call : goal.returns-clause-call
returns-clause-call g c =
    let w = c.self.inside.memory in
    let after = c.evict-answer.new.self in
    let evicted = c.evict-answer.ensures in
    let a = c.args.address.0 in
    let here = subst (λ v. held_refusal (noted v.journal).table a ≡ None) (sym c.self.view_is) c.in_ok-page_of.ensures.0 in
    rw (← c.self.view_is) (answered g.C.Chip.meaning (unless_off c.self.inside.off (held_refusal (noted w.journal).table a))
    (λ r. Evicts (pages_of w.journal) a (g.C.Chip.meaning c.self.inside.chip) (noted w.journal) w.space r (g.C.Chip.meaning c.evict-answer.new.chip) (noted after.journal) × (after.space ≡ w.space))
    _ _ c.evict-answer.result (on_refusal c.self.inside.off _ (ap (λ v. v.off) c.self.view_is ∙ c.in_ok-awake.ensures.awake) here) c.off_after-self-inside.ensures (evicted.evicts, evicted.space))
