-- What an image chip does exactly is what a chip may do.
use Rattle.std.proofs.Common.{◌≡◌, ℕ, ◌*◌, true, cond, eqb, ltb, List, length, Some, None, Ok, Result, refl, inl}
use Rattle.std.proofs.lemmas.Bool.{ltb-true}
use Rattle.device.specs.declared.faults.Fault.{Fault}
use Rattle.device.specs.declared.faults.Refusal.TheVariants.{PowerOff, Unsettled}
use Rattle.device.specs.Cells.{Cut}
use Rattle.device.specs.Calls.{Served, Halted}
use Rattle.device.specs.Faults.{chip_fault}
use Rattle.device.specs.Chips.{Note, Tears, Programs, program_refusal, program_at, programmed, Erases, erase_refusal, erased_block, unsettled_in, Syncs, sync_refusal, synced, Powers}
use Rattle.device.proofs.Settling.{in_order_met}
use Rattle.chip_frames.specs.Frames.{Whole, blocks_in, page_in, Framed, Restated, settling, erasing, cutting}
use Rattle.chip_frames.proofs.Pagewise.{settled_pages, erased_pages, cut_pages, framed_pages}
use Rattle.image.specs.Exact.{View, Counted, Switched}
use Rattle.image.specs.OfChip.{chip_means}
use Rattle.image.proofs.Exactly.{as_many, on_if, counted_call, switched_call}
use Rattle.std.proofs.Common.{◌/◌, ◌<◌, Bool, sym, ap, ◌∙◌}
use Rattle.std.proofs.lemmas.Bool.{lt-ltb}
use Rattle.device.specs.Cells.{reads}
use Rattle.device.specs.Chips.{page_count, Reads, read_refusal, read_at}
use Rattle.device.specs.Chips.State.{held}
use Rattle.chip_frames.specs.Frames.{page_of, image_pages}
use Rattle.chip_frames.proofs.Pagewise.{unsettled_pages}
use Rattle.image.specs.Exact.{Looked}
use Rattle.image.proofs.Exactly.{looked_call}

module _ (v w : View) (whole : Whole w.bytes) where
  -- an image as long as a whole one is whole
  as_whole : length w.bytes ≡ length v.bytes → Whole v.bytes
  as_whole len = record { whole = rw (← len) whole.whole; some = rw (← len) whole.some; few = rw (← len) whole.few }

  pub programs_rules : (p : ℕ) (note : Note) (bytes : List ℕ) (r : Result (Unit {0}) Fault)
      → Counted (program_refusal (chip_means v) p (length bytes)) (chip_fault p PowerOff) v (Framed v.bytes p note bytes) r w
      → Programs (chip_means v) p note bytes r (chip_means w)
  programs_rules p note bytes r h =
      counted_call blocks_in page_in (as_many 4160) _ _ v w (Framed v.bytes p note bytes) (Served (programmed (chip_means v) p note bytes)) (Halted (chip_means v) (programmed (chip_means v) p note bytes)) r
      (λ e. (met e).0) (λ e f len q. inl (framed_pages v.bytes w.bytes (as_whole len) len p note bytes (ltb-true p (8 * blocks_in v.bytes) (met e).2) f q)) (λ q. inl refl) h
    where
      met : program_refusal (chip_means v) p (length bytes) ≡ None → (v.power.on ≡ true) × (eqb (length bytes) 512 ≡ true) × (ltb p (8 * blocks_in v.bytes) ≡ true) × (program_at p (page_in v.bytes p) ≡ None)
      met e = in_order_met v.power.on (chip_fault p PowerOff) (eqb (length bytes) 512) (ltb p (8 * blocks_in v.bytes)) (chip_fault p) (program_at p (page_in v.bytes p)) e

  pub erases_rules : (b : ℕ) (r : Result (Unit {0}) Fault)
      → Counted (erase_refusal (chip_means v) b) (chip_fault b PowerOff) v (Restated v.bytes (erasing v.bytes b)) r w
      → Erases (chip_means v) b r (chip_means w)
  erases_rules b r h =
      counted_call blocks_in page_in (as_many 4160) _ _ v w (Restated v.bytes (erasing v.bytes b)) (Served (erased_block (chip_means v) b)) (Halted (chip_means v) (erased_block (chip_means v) b)) r
      (λ e. (in_order_met v.power.on (chip_fault b PowerOff) true (ltb b (blocks_in v.bytes)) (chip_fault b) (cond (unsettled_in (page_in v.bytes) b (8 * blocks_in v.bytes)) (Some (chip_fault b Unsettled)) None) e).0)
      (λ e f len q. inl (erased_pages v.bytes w.bytes (as_whole len) len b f q)) (λ q. inl refl) h

  pub syncs_rules : (r : Result (Unit {0}) Fault)
      → Counted (sync_refusal (chip_means v)) (chip_fault 0 PowerOff) v (Restated v.bytes (settling v.bytes)) r w
      → Syncs (chip_means v) r (chip_means w)
  syncs_rules r h =
      counted_call blocks_in page_in (as_many 4160) _ _ v w (Restated v.bytes (settling v.bytes)) (Served (synced (chip_means v))) (Halted (chip_means v) (synced (chip_means v))) r
      (λ e. on_if v.power.on (chip_fault 0 PowerOff) e) (λ e f len q. inl (settled_pages v.bytes w.bytes (as_whole len) len f q)) (λ q. inl refl) h

  pub powers_rules : Switched v (Restated v.bytes (cutting v.bytes)) w → Powers (chip_means v) (Ok tt) (chip_means w)
  powers_rules h = (
    refl,
    tt,
    switched_call blocks_in page_in (as_many 4160) v w (Restated v.bytes (cutting v.bytes)) (λ q. Cut Tears (page_in v.bytes q))
        (λ f len q. cut_pages v.bytes w.bytes (as_whole len) len f q) h,
  )

-- a read
pub reads_rules : (v : View) (p : ℕ) (buf after : List ℕ) (r : Result Note Fault)
    → Looked (read_refusal (chip_means v) p (length buf)) (λ note. reads (page_in v.bytes p) ≡ held note after) (after ≡ buf) r
    → Reads (chip_means v) p buf r after (chip_means v)
reads_rules v p buf after r h =
    looked_call blocks_in page_in _ (chip_fault p PowerOff) v (Halted (chip_means v) (page_in v.bytes)) _ (after ≡ buf) r
    (λ e. (in_order_met v.power.on _ (eqb (length buf) 512) (ltb p (page_count (chip_means v))) (chip_fault p) (read_at p (reads (page_in v.bytes p))) e).0) h

-- what an erase answers, by the look at the block's pages
pub erase_answer : (on : Bool) (xs : List ℕ) (b : ℕ) (any : Bool) → Whole xs → on ≡ true → b < blocks_in xs → any ≡ unsettled_in (page_of xs) b (length xs / 520)
    → erase_refusal (image_pages on xs) b ≡ cond any (Some (chip_fault b Unsettled)) None
erase_answer on xs b any w o l e =
    rw (o, lt-ltb b (blocks_in xs) l) (ap (λ z. cond z (Some (chip_fault b Unsettled)) None) (sym (e ∙ unsettled_pages xs b w)))
