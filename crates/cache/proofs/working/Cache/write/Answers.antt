-- What the memory's write answers and leaves is handed on.
use Rattle.std.proofs.Common.{length, ap, ◌∙◌}
use Rattle.journal.specs.Notes.{noted, pages_of}
use Rattle.engine.specs.Works.{Writes}
use Rattle.cache.specs.Refusals.{write_refusal}
use Rattle.cache.proofs.Calling.{answered}
use Rattle.cache.proofs.working.Cache.write.Goals as goal

pub returns-clause-call : goal.returns-clause-call
returns-clause-call g c =
    let w = c.self.inside.memory in
    let after = c.write-answer.new.self in
    let len = length c.args.bytes.now in
    rw (← c.self.view_is) (answered g.C.Chip.meaning (write_refusal c.self.inside.off c.args.address.0 len)
    (λ r. Writes (pages_of w.journal) w.journal.geometry.blocks c.args.dirty c.args.address.0 c.args.bytes.now (g.C.Chip.meaning c.self.inside.chip) (noted w.journal) w.space r
    (g.C.Chip.meaning c.write-answer.new.chip) (noted after.journal) after.space)
    _ _ c.write-answer.result (ap (λ o. write_refusal o c.args.address.0 len) (ap (λ v. v.off) c.self.view_is ∙ c.in_ok-awake.ensures.awake) ∙ c.in_ok-check_block.ensures) c.off_after-self-inside.ensures c.write-answer.ensures.writes)
