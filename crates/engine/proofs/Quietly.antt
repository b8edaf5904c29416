-- A chip that was only looked at: what was known of it stays true.
use Rattle.std.proofs.Common.{◌≡◌, ℕ, false, sym, ap, ◌∙◌, inl, inr}
use mathlib.Core.Path.{fun_ext}
use Rattle.device.specs.Cells.{is_unsettled, Early, Leaves}
use Rattle.device.specs.Cells.Cell.{settled}
use Rattle.device.specs.Chips.{State, Pages, Tears}
use Rattle.device.proofs.Settling.{early_ends}
use Rattle.recovery.specs.Looking.{shown, Quiet}
use Rattle.recovery.proofs.Wholly.{moved}
use Rattle.space.specs.declared.blanks.Space.{Space}
use Rattle.journal.specs.Steps.{AllSettled}
use Rattle.space.specs.Worlds.{blank_page, Fits}
use Rattle.journal.proofs.Settledness.{settled_reads}

module _ (m n : Pages) (quiet : Quiet m n) where
  -- a settled page stays as it is
  pub quiet_cell : (p : ℕ) → is_unsettled (m.cell p) ≡ false → n.cell p ≡ settled (shown m p)
  quiet_cell p firm = go (quiet.cells p)
    where
      go : Early (m.cell p) (n.cell p) → n.cell p ≡ settled (shown m p)
      go (inl e) = e ∙ settled_reads (m.cell p) firm
      go (inr e) = e

  pub quiet_same : AllSettled m → n.cell ≡ m.cell
  quiet_same firm = fun_ext (λ p. quiet_cell p (firm p) ∙ sym (settled_reads (m.cell p) (firm p)))

  -- a cut leaves it in no new way
  pub quiet_leaves : (s : ℕ → State) → Leaves Tears n.cell s → Leaves Tears m.cell s
  quiet_leaves s l p = early_ends Tears (m.cell p) (n.cell p) (s p) (quiet.cells p) (l p)

  pub quiet_fits : (D : ℕ) (sp : Space) → Fits D m sp → Fits D n sp
  quiet_fits D sp h = record { long = h.long; each = λ i l. h.each i l ∙ ap (λ s. blank_page s i) (sym (moved m n quiet)) }
