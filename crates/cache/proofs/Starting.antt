-- What form and adopt answer, from what the memory's beginning and waking answer.
use Rattle.std.proofs.Common.{◌≡◌, Some, None, Ok, Err, Option, Result, sym, ap, ◌∙◌, subst, subst₂, inr, arith}
use Rattle.device.specs.declared.faults.Fault.{Fault}
use Rattle.device.specs.Chips.{Pages}
use Rattle.layout.specs.declared.chip_size.Geometry.{Geometry}
use Rattle.layout.specs.Geometry.{data_pages, geometry_refusal}
use Rattle.table.specs.Tables.{Table}
use Rattle.journal.specs.Notes.{noted}
use Rattle.engine.specs.declared.memory.Memory.{Memory}
use Rattle.engine.specs.Works.{Holding}
use Rattle.cache.specs.declared.bare.Permit.{Permit}
use Rattle.cache.specs.Views.{Bare, ReadyToOpen, BareSound}
use Rattle.cache.specs.Caches.{bare_chip, Starts}

never : {A : Type 0} {x : A} → ◌≡◌ {A = Option A} None (Some x) → ⊥
never e = grind arith

-- what is in an option is one thing
same_in : {A : Type 0} {o : Option A} {x y : A} → o ≡ Some x → o ≡ Some y → x ≡ y
same_in p q = cc

-- what was found on a chip of this size fits it
pub fits_chip : (m : Pages) (w : Memory) (size : Geometry) → w.journal.geometry ≡ size → m.size ≡ size.blocks → (t : Table)
    → Holding (data_pages size.blocks) m (noted w.journal) w.space t → ReadyToOpen m w
fits_chip m w size own sized t h = record {
  fits = sized ∙ ap (λ g. g.blocks) (sym own);
  holding = (t, subst (λ g. Holding (data_pages g.blocks) m (noted w.journal) w.space t) (sym own) h);
}

-- what was found is all that can be opened
pub kept : {C : Type 0} (meaning : C → Pages) (d : Bare C) (ch : C) (w : Memory) → d.chip ≡ ch → d.memory ≡ Some w → ReadyToOpen (meaning ch) w
    → BareSound (meaning d.chip) d.memory
kept meaning d ch w chip memory ready v e = subst₂ (λ x y. ReadyToOpen (meaning x) y) (sym chip) (same_in memory e) ready

-- where nothing was found nothing can be opened
pub nothing_kept : (m : Pages) → BareSound m None
nothing_kept m w e = absurd (never e)

module _ {C : Type 0} (meaning : C → Pages) (Made : Pages → Memory → Pages → Type 0) (Dark : Pages → Fault → Pages → Type 0) (b d : Bare C)
    (allowed : geometry_refusal (bare_chip meaning b).size ≡ None) where
  -- what was found is kept, and a permit granted for it
  pub started : (w : Memory) (p : Permit) → d.memory ≡ Some w → p.number ≡ d.number → Made (bare_chip meaning b) w (bare_chip meaning d) → Starts meaning Made Dark b (Ok p) d
  started w p memory number made = (allowed, record { this = number; formed = (w, memory) }, (w, memory, made))

  -- a refusal leaves nothing found
  pub not_started : (f : Fault) (r : Result Permit Fault) → r ≡ Err f → d.memory ≡ None → Dark (bare_chip meaning b) f (bare_chip meaning d) → Starts meaning Made Dark b r d
  not_started f r answer none dark = subst (λ x. Starts meaning Made Dark b x d) (sym answer) (inr (allowed, none, dark))
