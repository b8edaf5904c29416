-- What beginning answers and leaves is handed on, with a permit.
use Rattle.std.proofs.Common.{sym, ap, ◌∙◌, subst₂}
use Rattle.layout.specs.Geometry.{data_pages, geometry_refusal}
use Rattle.journal.specs.Steps.{Fails}
use Rattle.journal.specs.Notes.{noted}
use Rattle.engine.specs.Works.{Begun}
use Rattle.cache.proofs.Starting.{fits_chip, kept, started}
use Rattle.cache.proofs.bare.BareCache.form.Goals as goal

pub returns : goal.returns
returns g c =
    let m = g.C.Chip.meaning c.self.inside.chip in
    let number = c.blocks-2.ensures.number in
    let fit = c.in_ok-geometry.ensures in
    let w = c.in_ok-memory.memory in
    let found = c.in_ok-memory.ensures.begins in
    record {
      ready = kept g.C.Chip.meaning c.grant.new.self c.begin.new.chip w c.grant.ensures.chip c.grant.ensures.memory
          (fits_chip (g.C.Chip.meaning c.begin.new.chip) w c.in_ok-geometry.geometry found.0 (found.1.size ∙ sym (fit.1 ∙ number)) (noted w.journal).table found.1.holding);
      forms = rw (← c.self.view_is) (started g.C.Chip.meaning (λ m w n. Begun (data_pages m.size) m n w.journal w.space) Fails
          (record { chip = c.self.inside.chip; memory = c.self.inside.memory; number = c.self.inside.number }) c.grant.new.self (ap geometry_refusal (sym number) ∙ fit.0) w c.grant.result c.grant.ensures.memory c.grant.ensures.granted
          (subst₂ (λ n x. Begun (data_pages n) m (g.C.Chip.meaning x) w.journal w.space) (fit.1 ∙ number) (sym c.grant.ensures.chip) found.1));
    }
