-- The ways in which a power cut may leave a chip, around one program or one erase.
use Rattle.std.proofs.Common.{◌≡◌, ℕ, true, false, cond, eqb, ◌⊎◌, List, Some, None, Option, refl, ◌∙◌, subst, inl, inr, ⊎_elim, arith}
use Rattle.std.proofs.lemmas.Bool.{eq-eqb, ne_eqb, cases_eq, cases_Bool}
use Rattle.device.specs.declared.faults.Fault.{Fault}
use Rattle.device.specs.Cells.{Cell, reads, is_unsettled, Ends, Leaves}
use Rattle.device.specs.Cells.Cell.{settled, unsettled}
use Rattle.device.specs.Calls.{wanted}
use Rattle.device.specs.Chips.{Note, State, Pages, Tears, block_of, programmed, erased, erased_block}
use Rattle.device.specs.Chips.State.{blank, torn, held}
use Rattle.device.proofs.Settling.{ends_reads}

-- a settled cell has one way
pub settled_way : (cell : ℕ → Cell State) (s : ℕ → State) (q : ℕ) (x : State) → Leaves Tears cell s → cell q ≡ settled x → s q ≡ x
settled_way cell s q x l e = subst (λ c. Ends Tears c (s q)) e (l q)

-- the cells as a call wanted them: as before, if its conditions refused it
pub wanted_cases : (refusal : Option Fault) (m : Pages) (want : ℕ → Cell State) (s : ℕ → State) → Leaves Tears (wanted refusal m want) s
    → Leaves Tears m.cell s ⊎ ((refusal ≡ None) × Leaves Tears want s)
wanted_cases None m want s l = inr (refl, l)
wanted_cases (Some f) m want s l = inl l

-- Around the program of a blank page.
module _ (m : Pages) (p : ℕ) (note : Note) (bytes : List ℕ) (was : m.cell p ≡ settled blank) (s : ℕ → State) (l : Leaves Tears (programmed m p note bytes) s) where
  -- the same way, with the page still blank
  abbrev pub before : ℕ → State
  before q = cond (eqb q p) blank (s q)

  pub before_here : before p ≡ blank
  before_here = rw (eq-eqb p p refl)

  pub before_elsewhere : (q : ℕ) → (q ≡ p → ⊥) → s q ≡ before q
  before_elsewhere q ne = rw (ne_eqb q p ne)

  pub before_leaves : Leaves Tears m.cell before
  before_leaves q =
      ⊎_elim
      (λ (e : q ≡ p). rw (eq-eqb q p e, e, was))
      (λ (ne : q ≡ p → ⊥). rw (ne_eqb q p ne) (subst (λ c. Ends Tears c (s q)) (rw (ne_eqb q p ne)) (l q)))
      (cases_eq q p)

  pub page_ways : (s p ≡ blank) ⊎ ((s p ≡ held note bytes) ⊎ (s p ≡ torn))
  page_ways =
      let e : programmed m p note bytes p ≡ unsettled blank (held note bytes) = rw (eq-eqb p p refl) in
      subst (λ c. Ends Tears c (s p)) e (l p)

  pub others_settled : (q : ℕ) (x : State) → (q ≡ p → ⊥) → m.cell q ≡ settled x → s q ≡ x
  others_settled q x ne e = before_elsewhere q ne ∙ settled_way m.cell before q x before_leaves e

-- Around the erase of a block.
module _ (m : Pages) (b : ℕ) (s : ℕ → State) (l : Leaves Tears (erased_block m b) s) where
  -- the same way, with the block still as it read
  abbrev pub unerased : ℕ → State
  unerased q = cond (eqb (block_of q) b) (reads (m.cell q)) (s q)

  pub unerased_elsewhere : (q : ℕ) → (block_of q ≡ b → ⊥) → s q ≡ unerased q
  unerased_elsewhere q ne = rw (ne_eqb (block_of q) b ne)

  pub unerased_leaves : Leaves Tears m.cell unerased
  unerased_leaves q =
      ⊎_elim
      (λ (t : eqb (block_of q) b ≡ true). rw t (ends_reads Tears (m.cell q) (reads (m.cell q)) refl))
      (λ (t : eqb (block_of q) b ≡ false). rw t (subst (λ c. Ends Tears c (s q)) (rw t) (l q)))
      (cases_Bool (eqb (block_of q) b))

  erased_cell_ways : (c : Cell State) (x : State) → is_unsettled c ≡ false → Ends Tears (erased c) x → (x ≡ reads c) ⊎ ((x ≡ blank) ⊎ (x ≡ torn))
  erased_cell_ways (settled blank) x u h = inl h
  erased_cell_ways (settled torn) x u (inl h) = inl h
  erased_cell_ways (settled torn) x u (inr (inl h)) = inr (inl h)
  erased_cell_ways (settled torn) x u (inr (inr h)) = inr (inr h)
  erased_cell_ways (settled (held note bytes)) x u (inl h) = inl h
  erased_cell_ways (settled (held note bytes)) x u (inr (inl h)) = inr (inl h)
  erased_cell_ways (settled (held note bytes)) x u (inr (inr h)) = inr (inr h)
  erased_cell_ways (unsettled was y) x u h = grind arith

  -- a page of the block is as it was, blank or torn
  pub block_ways : (q : ℕ) → block_of q ≡ b → is_unsettled (m.cell q) ≡ false → (s q ≡ unerased q) ⊎ ((s q ≡ blank) ⊎ (s q ≡ torn))
  block_ways q e u =
      let t : eqb (block_of q) b ≡ true = eq-eqb (block_of q) b e in
      rw t (erased_cell_ways (m.cell q) (s q) u (subst (λ c. Ends Tears c (s q)) (rw t) (l q)))
