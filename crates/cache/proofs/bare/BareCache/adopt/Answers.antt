-- What waking answers and leaves is handed on, with a permit or with nothing found.
use Rattle.std.proofs.Common.{◌≡◌, Err, sym, refl, ap, ◌∙◌, subst, subst₂}
use Rattle.std.proofs.lemmas.Result.{err_from_is_err_and}
use Rattle.layout.specs.Geometry.{data_pages, geometry_refusal}
use Rattle.journal.specs.Notes.{noted}
use Rattle.engine.specs.Works.{Woken, StaysDark}
use Rattle.cache.proofs.Starting.{fits_chip, kept, nothing_kept, started, not_started}
use Rattle.cache.proofs.bare.BareCache.adopt.Goals as goal

pub returns-in_err-memory : goal.returns-in_err-memory
returns-in_err-memory g c =
    let m = g.C.Chip.meaning c.self.inside.chip in
    let m₁ = g.C.Chip.meaning c.wake.new.chip in
    let number = c.blocks-2.ensures.number in
    let fit = c.in_ok-geometry.ensures in
    let p = err_from_is_err_and {Q = λ f. f ≡ c.in_err-memory.field-0.0} c.from_residual-in_err-memory.result c.from_residual-in_err-memory.ensures.1 in
    record {
      ready = nothing_kept m₁;
      adopts = rw (← c.self.view_is) (not_started g.C.Chip.meaning (λ m w n. Woken (data_pages m.size) m n w.journal w.space) (λ m f n. StaysDark (data_pages m.size) m f n)
          _ _ (ap geometry_refusal (sym number) ∙ fit.0) c.in_err-memory.field-0.0 c.from_residual-in_err-memory.result (p.1 ∙ ap Err p.2) refl
          (subst (λ n. StaysDark (data_pages n) m c.in_err-memory.field-0.0 m₁) (fit.1 ∙ number) c.in_err-memory.ensures.wakes));
    }

pub returns : goal.returns
returns g c =
    let m = g.C.Chip.meaning c.self.inside.chip in
    let number = c.blocks-2.ensures.number in
    let fit = c.in_ok-geometry.ensures in
    let w = c.in_ok-memory.memory in
    let found = c.in_ok-memory.ensures.wakes in
    record {
      ready = kept g.C.Chip.meaning c.grant.new.self c.wake.new.chip w c.grant.ensures.chip c.grant.ensures.memory
          (fits_chip (g.C.Chip.meaning c.wake.new.chip) w c.in_ok-geometry.geometry found.0 (found.1.size ∙ sym (fit.1 ∙ number)) (noted w.journal).table found.1.holding);
      adopts = rw (← c.self.view_is) (started g.C.Chip.meaning (λ m w n. Woken (data_pages m.size) m n w.journal w.space) (λ m f n. StaysDark (data_pages m.size) m f n)
          (record { chip = c.self.inside.chip; memory = c.self.inside.memory; number = c.self.inside.number }) c.grant.new.self (ap geometry_refusal (sym number) ∙ fit.0) w c.grant.result c.grant.ensures.memory c.grant.ensures.granted
          (subst₂ (λ n x. Woken (data_pages n) m (g.C.Chip.meaning x) w.journal w.space) (fit.1 ∙ number) (sym c.grant.ensures.chip) found.1));
    }
