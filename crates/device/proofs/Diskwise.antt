-- The laws of a disk's calls.
use Rattle.std.proofs.Common.{◌≡◌, ℕ, Bool, true, false, cond, eqb, ltb, List, length, Some, None, refl, ap, ◌∙◌, subst, inl, inr, ⊎_elim, arith}
use Rattle.std.proofs.lemmas.Bool.{eq-eqb, ne_eqb, cases_eq, true≢false}
use Rattle.device.specs.declared.faults.Layer.{Layer}
use Rattle.device.specs.declared.faults.Refusal.{Refusal}
use Rattle.device.specs.declared.faults.Refusal.TheVariants.{Unsettled}
use Rattle.device.specs.Cells.{Cell, reads, is_unsettled, Ends}
use Rattle.device.specs.Cells.Cell.{settled, unsettled}
use Rattle.device.specs.Faults.{Where, disk_fault, off_fault}
use Rattle.device.specs.Calls.{wanted}
use Rattle.device.specs.Disks.{Blocks, Never, block_write_refusal, written, WriteHalted}
use Rattle.device.specs.Laws.{DiskCuts}
use Rattle.device.proofs.Settling.{in_order_met, call_cuts, served_ways, halted_ways, same_ways, sync_ways, sync_halted_ways, power_ways, power_halted_ways, wanted_none, wanted_some}

settled_is : {S : Type 0} (c : Cell S) → is_unsettled c ≡ false → c ≡ settled (reads c)
settled_is (settled s) h = refl
settled_is (unsettled was s) h = absurd (true≢false h)

-- a block that may be written is settled
pub write_settled : (layer : Refusal → Layer) (off : ℕ → Where) (m : Blocks) (b len : ℕ) → block_write_refusal layer off m b len ≡ None → m.cell b ≡ settled (reads (m.cell b))
write_settled layer off m b len h =
    settled_is (m.cell b) (none (is_unsettled (m.cell b))
    (in_order_met m.on (off_fault off b) (eqb len 512) (ltb b m.size) (disk_fault layer b) (cond (is_unsettled (m.cell b)) (Some (disk_fault layer b Unsettled)) None) h).3)
  where
    none : (u : Bool) → cond u (Some (disk_fault layer b Unsettled)) None ≡ None → u ≡ false
    none true h = grind arith
    none false h = refl

written_widens : (m : Blocks) (b : ℕ) (bytes : List ℕ) → m.cell b ≡ settled (reads (m.cell b)) → (i : ℕ) (s : List ℕ) → Ends Never (m.cell i) s
    → Ends Never (written m b bytes i) s
written_widens m b bytes e i s h =
    ⊎_elim
    (λ (t : i ≡ b). rw (eq-eqb i b t) (inl (subst (λ z. Ends Never z s) (ap m.cell t ∙ e) h)))
    (λ (ne : i ≡ b → ⊥). rw (ne_eqb i b ne) h)
    (cases_eq i b)

write_halted_ways : (m : Blocks) (b : ℕ) (bytes : List ℕ) (s : ℕ → List ℕ) → m.cell b ≡ settled (reads (m.cell b)) → (i : ℕ) (c : Cell (List ℕ))
    → WriteHalted m b bytes i c → Ends Never c (s i) → Ends Never (written m b bytes i) (s i)
write_halted_ways m b bytes s e i c (inl k) h = halted_ways Never m (written m b bytes) s (λ j. written_widens m b bytes e j (s j)) i c k h
write_halted_ways m b bytes s e i c (inr (t, k)) h =
    rw (eq-eqb i b t) (inr (inl (subst (λ z. Ends Never z (s i)) k h)))

pub disk_cuts : DiskCuts
disk_cuts = record {
  at_read = λ layer off off' m n b buf after r s k h.
      call_cuts Never _ _ m n _ _ _ _ m.cell s r (λ f e. same_ways Never m m.cell s) (λ e. served_ways Never m m.cell s)
      (λ e. halted_ways Never m m.cell s (λ i x. x)) k h;
  at_write = λ layer off off' m n b bytes r s k h.
      call_cuts Never _ _ m n _ _ _ _ (wanted (block_write_refusal layer off m b (length bytes)) m (written m b bytes)) s r
      (λ f e i c g x. wanted_some _ m _ (λ z. Ends Never z (s i)) i f e (same_ways Never m m.cell s i c g x))
      (λ e i c g x. wanted_none _ m _ (λ z. Ends Never z (s i)) i e (served_ways Never m (written m b bytes) s i c g x))
      (λ e i c g x. wanted_none _ m _ (λ z. Ends Never z (s i)) i e (write_halted_ways m b bytes s (write_settled layer off m b (length bytes) e) i c g x))
      k h;
  at_sync = λ off off' m n r s k h.
      call_cuts Never _ _ m n _ _ _ _ m.cell s r (λ f e. same_ways Never m m.cell s) (λ e. sync_ways Never m m.cell s)
      (λ e. sync_halted_ways Never m m.cell s) k h;
  at_power_on = λ off' m n r s k h.
      call_cuts Never _ _ m n _ _ _ _ m.cell s r (λ f e. same_ways Never m m.cell s) (λ e. power_ways Never m m.cell s)
      (λ e. power_halted_ways Never m m.cell s) k h;
}
