-- A power-on that is refused keeps the cache off with its fault.
use Rattle.std.proofs.Common.{refl, subst}
use Rattle.layout.specs.Geometry.{data_pages}
use Rattle.engine.specs.Works.{StaysDark}
use Rattle.cache.proofs.working.Cache.power_on.Goals as goal

pub returns-in-Err-clause-call : goal.returns-in-Err-clause-call
returns-in-Err-clause-call g c =
    rw (← c.self.view_is) (
      refl,
      subst (λ k. StaysDark (data_pages k.blocks) (g.C.Chip.meaning c.self.inside.chip) c.in-Err.fault (g.C.Chip.meaning c.wake.new.chip)) c.geometry-geometry.ensures c.in-Err.ensures.wakes,
      refl,
      refl,
    )
