-- What the memory's fetch answers and leaves is handed on.
use Rattle.std.proofs.Common.{◌≡◌, None, length, sym, refl, ap, ◌∙◌, subst}
use Rattle.journal.specs.Notes.{noted}
use Rattle.cache.specs.Refusals.{held_refusal}
use Rattle.cache.proofs.Calling.{read_allowed, read_answered}
use Rattle.cache.proofs.working.Cache.read.Goals as goal

pub returns-clause-call : goal.returns-clause-call
returns-clause-call g c =
    let w = c.self.inside.memory in
    let a = c.args.address.0 in
    let here = subst (λ v. held_refusal (noted v.journal).table a ≡ None) (sym c.self.view_is) c.in_ok-page.ensures.0 in
    rw (← c.self.view_is) (read_answered g.C.Chip.meaning a c.args.buf.now c.fetch-answer.new.buf
    (record { chip = c.self.inside.chip; journal = w.journal; space = w.space; off = c.self.inside.off })
    (record { chip = c.fetch-answer.new.chip; journal = w.journal; space = w.space; off = c.off_after-self-inside.result })
    c.fetch-answer.result
    (read_allowed c.self.inside.off (noted w.journal).table a (length c.args.buf.now) (ap (λ v. v.off) c.self.view_is ∙ c.in_ok-awake.ensures.awake) c.in_ok-check_block.ensures here)
    c.off_after-self-inside.ensures refl refl c.fetch-answer.ensures.fetches)
