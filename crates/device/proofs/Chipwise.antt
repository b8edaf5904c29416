-- The laws of a chip's calls.
use Rattle.std.proofs.Common.{◌≡◌, ℕ, zero, suc, ◌<◌, Bool, true, false, cond, ◌&&◌, eqb, ltb, List, length, Some, None, sym, refl, ap, ◌∙◌, subst, inl, ⊎_elim, arith}
use Rattle.std.proofs.lemmas.Bool.{eq-eqb, ne_eqb, cases_eq, cases_Bool, ltb-true, or_parts, and_from, true≢false}
use Rattle.device.specs.declared.faults.Refusal.TheVariants.{PowerOff, Unsettled}
use Rattle.device.specs.Cells.{Cell, reads, is_unsettled, Ends}
use Rattle.device.specs.Cells.Cell.{settled, unsettled}
use Rattle.device.specs.Faults.{chip_fault}
use Rattle.device.specs.Calls.{wanted}
use Rattle.device.specs.Chips.{Note, State, Pages, Tears, page_count, block_of, program_refusal, program_at, programmed, erase_refusal, erased, erased_block, unsettled_in, synced}
use Rattle.device.specs.Chips.State.{blank, torn, held}
use Rattle.device.specs.Laws.{ChipReads, ChipCuts}
use Rattle.device.proofs.Settling.{in_order_met, early_reads, call_cuts, served_ways, halted_ways, same_ways, sync_ways, sync_halted_ways, power_ways, power_halted_ways, wanted_none, wanted_some, call_reads_same}

program_at_blank : (p : ℕ) (c : Cell State) → program_at p c ≡ None → c ≡ settled blank
program_at_blank p (settled blank) h = refl
program_at_blank p (settled torn) h = grind arith
program_at_blank p (settled (held note bytes)) h = grind arith
program_at_blank p (unsettled was s) h = grind arith

-- a page that may be programmed is blank and settled
pub program_blank : (m : Pages) (p len : ℕ) → program_refusal m p len ≡ None → m.cell p ≡ settled blank
program_blank m p len h =
    program_at_blank p (m.cell p) (in_order_met m.on (chip_fault p PowerOff) (eqb len 512) (ltb p (page_count m)) (chip_fault p) (program_at p (m.cell p)) h).3

programmed_widens : (m : Pages) (p : ℕ) (note : Note) (bytes : List ℕ) → m.cell p ≡ settled blank → (i : ℕ) (s : State) → Ends Tears (m.cell i) s
    → Ends Tears (programmed m p note bytes i) s
programmed_widens m p note bytes e i s h =
    ⊎_elim
    (λ (t : i ≡ p). rw (eq-eqb i p t) (inl (subst (λ z. Ends Tears z s) (ap m.cell t ∙ e) h)))
    (λ (ne : i ≡ p → ⊥). rw (ne_eqb i p ne) h)
    (cases_eq i p)

erased_widens : (c : Cell State) (s : State) → Ends Tears c s → Ends Tears (erased c) s
erased_widens (settled blank) s h = h
erased_widens (settled torn) s h = inl h
erased_widens (settled (held note bytes)) s h = inl h
erased_widens (unsettled was x) s h = h

block_widens : (m : Pages) (b i : ℕ) (s : State) → Ends Tears (m.cell i) s → Ends Tears (erased_block m b i) s
block_widens m b i s h =
    ⊎_elim
    (λ (t : eqb (block_of i) b ≡ true). rw t (erased_widens (m.cell i) s h))
    (λ (t : eqb (block_of i) b ≡ false). rw t h)
    (cases_Bool (eqb (block_of i) b))

pub chip_cuts : ChipCuts
chip_cuts = record {
  at_read = λ m n p buf after r s k h.
      call_cuts Tears _ _ m n _ _ _ _ m.cell s r (λ f e. same_ways Tears m m.cell s) (λ e. served_ways Tears m m.cell s)
      (λ e. halted_ways Tears m m.cell s (λ i x. x)) k h;
  at_program = λ m n p note bytes r s k h.
      call_cuts Tears _ _ m n _ _ _ _ (wanted (program_refusal m p (length bytes)) m (programmed m p note bytes)) s r
      (λ f e i c g x. wanted_some _ m _ (λ z. Ends Tears z (s i)) i f e (same_ways Tears m m.cell s i c g x))
      (λ e i c g x. wanted_none _ m _ (λ z. Ends Tears z (s i)) i e (served_ways Tears m (programmed m p note bytes) s i c g x))
      (λ e i c g x. wanted_none _ m _ (λ z. Ends Tears z (s i)) i e
      (halted_ways Tears m (programmed m p note bytes) s (λ j. programmed_widens m p note bytes (program_blank m p (length bytes) e) j (s j)) i c g x))
      k h;
  at_erase = λ m n b r s k h.
      call_cuts Tears _ _ m n _ _ _ _ (wanted (erase_refusal m b) m (erased_block m b)) s r
      (λ f e i c g x. wanted_some _ m _ (λ z. Ends Tears z (s i)) i f e (same_ways Tears m m.cell s i c g x))
      (λ e i c g x. wanted_none _ m _ (λ z. Ends Tears z (s i)) i e (served_ways Tears m (erased_block m b) s i c g x))
      (λ e i c g x. wanted_none _ m _ (λ z. Ends Tears z (s i)) i e (halted_ways Tears m (erased_block m b) s (λ j. block_widens m b j (s j)) i c g x))
      k h;
  at_sync = λ m n r s k h.
      call_cuts Tears _ _ m n _ _ _ _ m.cell s r (λ f e. same_ways Tears m m.cell s) (λ e. sync_ways Tears m m.cell s)
      (λ e. sync_halted_ways Tears m m.cell s) k h;
  at_power_on = λ m n r s k h.
      call_cuts Tears _ _ m n _ _ _ _ m.cell s r (λ f e. same_ways Tears m m.cell s) (λ e. power_ways Tears m m.cell s)
      (λ e. power_halted_ways Tears m m.cell s) k h;
}

-- no page of the block is unsettled, if none of the first k is
pub unsettled_none : (pages : ℕ → Cell State) (b k p : ℕ) → unsettled_in pages b k ≡ false → p < k → block_of p ≡ b → is_unsettled (pages p) ≡ false
unfolding unsettled_in
unsettled_none pages b zero p h l e = absurd (omega arith)
unsettled_none pages b (suc k) p h l e =
    let t = or_parts (eqb (block_of k) b && is_unsettled (pages k)) (unsettled_in pages b k) h in
    let deeper : p < k → is_unsettled (pages p) ≡ false = λ below. unsettled_none pages b k p t.1 below e in
    ⊎_elim
    (λ (i : p ≡ k).
    let here : (eqb (block_of p) b && is_unsettled (pages p)) ≡ false = rw i t.0 in
    ⊎_elim
    (λ (u : is_unsettled (pages p) ≡ true). absurd (true≢false (sym (and_from (eqb (block_of p) b) (is_unsettled (pages p)) (eq-eqb (block_of p) b e) u) ∙ here)))
    (λ (u : is_unsettled (pages p) ≡ false). u)
    (cases_Bool (is_unsettled (pages p))))
    (λ (ne : p ≡ k → ⊥). deeper (omega arith))
    (cases_eq p k)

erased_reads : (c : Cell State) → is_unsettled c ≡ false → reads (erased c) ≡ blank
erased_reads (settled blank) h = refl
erased_reads (settled torn) h = refl
erased_reads (settled (held note bytes)) h = refl
erased_reads (unsettled was s) h = absurd (true≢false h)

-- what an erase found: the block is there, and no page of it is unsettled
pub erase_free : (m : Pages) (b : ℕ) → erase_refusal m b ≡ None → (q : ℕ) → block_of q ≡ b → is_unsettled (m.cell q) ≡ false
erase_free m b h q e =
    let t = in_order_met m.on (chip_fault b PowerOff) true (ltb b m.size) (chip_fault b) (cond (unsettled_in m.cell b (page_count m)) (Some (chip_fault b Unsettled)) None) h in
    let l : b < m.size = ltb-true b m.size t.2 in
    unsettled_none m.cell b (page_count m) q (none (unsettled_in m.cell b (page_count m)) t.3) (omega arith) e
  where
    none : (u : Bool) → cond u (Some (chip_fault b Unsettled)) None ≡ None → u ≡ false
    none true h = grind arith
    none false h = refl

pub chip_reads : ChipReads
chip_reads = record {
  after_read = λ m n p buf after r k. call_reads_same _ _ m n m.cell _ _ (λ i. refl) r k;
  after_program = λ m n p note bytes k.
      (early_reads _ _ (k.2.cells p) ∙ rw (eq-eqb p p refl), (λ q ne. early_reads _ _ (k.2.cells q) ∙ rw (ne_eqb q p ne)));
  after_erase = λ m n b k. (
    (λ q e. early_reads _ _ (k.2.cells q) ∙ rw (eq-eqb (block_of q) b e) (erased_reads (m.cell q) (erase_free m b k.0 q e))),
    (λ q ne. early_reads _ _ (k.2.cells q) ∙ rw (ne_eqb (block_of q) b ne)),
  );
  after_sync = λ m n r k. call_reads_same _ _ m n (synced m) _ _ (λ i. refl) r k;
}
