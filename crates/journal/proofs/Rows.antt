-- The erases of a row of blocks: the steps that it is made of, and what they leave, of the whole chip and of the area that is not active.
use Rattle.std.proofs.Common.{◌≡◌, ℕ, zero, suc, ◌+◌, ◌-◌, ◌<◌, ◌≤◌, true, false, Ok, Err, Result, sym, refl, ap, ◌∙◌, subst, inl, inr, ⊎_elim, arith}
use Rattle.std.proofs.lemmas.Bool.{cases_eq, cases_Bool}
use Rattle.device.specs.declared.faults.Fault.{Fault}
use Rattle.device.specs.Cells.{reads, is_unsettled}
use Rattle.device.specs.Chips.{Pages, block_of, Erases, Syncs}
use Rattle.device.specs.Chips.State.{blank}
use Rattle.device.proofs.Chipwise.{chip_reads}
use Rattle.layout.specs.declared.areas.Area.{Area}
use Rattle.layout.specs.Geometry.{other_area}
use Rattle.recovery.specs.Looking.{shown}
use Rattle.crash.proofs.Cuts.{safe_steps}
use Rattle.journal.specs.Notes.{in_area}
use Rattle.journal.specs.Steps.{AllSettled, Fails, Landing, Beside, StillHolds, Breaks, ErasesRow, Wiped, cleared}
use Rattle.journal.proofs.Allowed.{erase_allowed, erase_fails, erase_beside, sync_beside, sync_settles}
use Rattle.journal.proofs.AreaBlocks.{first_block, blocks_inside, blocks_outside, blocks_below}
use Rattle.journal.proofs.Settledness.{settled_reads, settled_as, sync_lost, fails_then}

-- one block more, and the rest of the row
pub row_goes : (start end start' end' b : ℕ) (m n : Pages) → 0 < end - start → b ≡ start → start' ≡ start + 1 → end' ≡ end → Erases m b (Ok tt) n
    → (r : Result (Unit {0}) Fault) (m' : Pages) → ErasesRow start' (end' - start') n r m' → ErasesRow start (end - start) m r m'
row_goes start end start' end' b m n more at next same call r m' rest =
    let longer : suc (end' - start') ≡ end - start = omega arith in
    let after : start' ≡ suc start = omega arith in
    subst (λ k. ErasesRow start k m r m') longer
    (inr (n, subst (λ x. Erases m x (Ok tt) n) at call, subst (λ x. ErasesRow x (end' - start') n r m') after rest))

pub row_breaks : (start end b : ℕ) (m m' : Pages) (f : Fault) → 0 < end - start → b ≡ start → Erases m b (Err f) m' → ErasesRow start (end - start) m (Err f) m'
row_breaks start end b m m' f more at call =
    let longer : suc (end - start - 1) ≡ end - start = omega arith in
    subst (λ k. ErasesRow start k m (Err f) m') longer (inl (subst (λ x. Erases m x (Err f) m') at call))

pub row_ends : (start end : ℕ) (m m' : Pages) (r : Result (Unit {0}) Fault) → end - start ≡ 0 → Syncs m r m' → ErasesRow start (end - start) m r m'
row_ends start end m m' r none call = subst (λ k. ErasesRow start k m r m') (sym none) call

-- the page lies in one of the k blocks from the first on
abbrev Inside : ℕ → ℕ → ℕ → Type 0
Inside first k p = (first ≤ block_of p) × (block_of p < first + k)

-- the first k blocks of the row are erased, and every other page is as it was
record Erased (first k : ℕ) (m n : Pages) : Type 0 where
  pub power : n.on ≡ true
  pub size : n.size ≡ m.size
  pub gone : (p : ℕ) → Inside first k p → shown n p ≡ blank
  pub rest : (p : ℕ) → (Inside first k p → ⊥) → n.cell p ≡ m.cell p

erased_none : (first : ℕ) (m : Pages) → m.on ≡ true → Erased first 0 m m
erased_none first m on = record { power = on; size = refl; gone = λ p i. absurd (omega (arith, i)); rest = λ p _. refl }

-- what is left of the chip: served, the row is blank and everything is settled; otherwise power failed, and the pages outside are as they were
record RowErased (first k : ℕ) (m m' : Pages) : Type 0 where
  pub erased : Erased first k m m'
  pub flat : AllSettled m'

abbrev RowLeft : ℕ → ℕ → Pages → Result (Unit {0}) Fault → Pages → Type 0
RowLeft first k m (Ok x) m' = RowErased first k m m'
RowLeft first k m (Err f) m' = Fails m f m' × ((p : ℕ) → (Inside first k p → ⊥) → m'.cell p ≡ m.cell p)

module _ (first total : ℕ) (m : Pages) (all : AllSettled m) (fits : first + total ≤ m.size) where
  -- One call of the row.
  module _ (j b : ℕ) (n : Pages) (at : b ≡ first + j) (e : Erased first j m n) where
    as_was : (p : ℕ) → (Inside first j p → ⊥) → is_unsettled (n.cell p) ≡ false
    as_was p out = ap is_unsettled (e.rest p out) ∙ all p

    erased_more : (n' : Pages) → Erases n b (Ok tt) n' → Erased first (j + 1) m n'
    erased_more n' call = record {
      power = call.2.power;
      size = call.2.size ∙ e.size;
      gone = λ p i. ⊎_elim
          (λ (here : block_of p ≡ b). (chip_reads.after_erase n n' b call).0 p here)
          (λ (ne : block_of p ≡ b → ⊥). (chip_reads.after_erase n n' b call).1 p ne ∙ e.gone p (i.0, omega (arith, i.1)))
          (cases_eq (block_of p) b);
      rest = λ p out.
          let before : Inside first j p → ⊥ = λ i. out (i.0, omega (arith, i.1)) in
          erase_beside n n' b (Ok tt) call p (λ x. out (omega arith, omega arith)) (as_was p before) ∙ e.rest p before;
    }

    erased_breaks : j < total → (f : Fault) (m' : Pages) → Erases n b (Err f) m' → RowLeft first total m (Err f) m'
    erased_breaks more f m' call =
        let none = erase_allowed n b e.power (omega (arith, e.size)) (λ q x. as_was q (λ i. omega (arith, i.1))) in (
          fails_then m n m' f e.size (erase_fails n m' b f none call),
          (λ p out.
              let before : Inside first j p → ⊥ = λ i. out (i.0, omega (arith, i.1)) in
              erase_beside n m' b (Err f) call p (λ x. out (omega arith, omega arith)) (as_was p before) ∙ e.rest p before),
        )

    erased_ends : j ≡ total → (r : Result (Unit {0}) Fault) (m' : Pages) → Syncs n r m' → RowLeft first total m r m'
    erased_ends same (Ok tt) m' call = record {
      erased = record {
        power = call.2.power;
        size = call.2.size ∙ e.size;
        gone = λ p i. ap reads (sync_settles n m' call p) ∙ e.gone p (i.0, omega (arith, i.1));
        rest = λ p out.
            let before : Inside first j p → ⊥ = λ i. out (i.0, omega (arith, i.1)) in
            sync_beside n m' (Ok tt) call p (as_was p before) ∙ e.rest p before;
      };
      flat = λ p. ap is_unsettled (sync_settles n m' call p);
    }
    erased_ends same (Err f) m' call = (
      fails_then m n m' f e.size (sync_lost n m' f e.power call),
      (λ p out.
          let before : Inside first j p → ⊥ = λ i. out (i.0, omega (arith, i.1)) in
          sync_beside n m' (Err f) call p (as_was p before) ∙ e.rest p before),
    )

  -- The row, with something that each of its calls keeps.
  module _ (Kept : Pages → Type 0) (erasing : (b : ℕ) (n n' : Pages) (x : Result (Unit {0}) Fault) → first ≤ b → b < first + total → Kept n → Erases n b x n' → Kept n')
      (syncing : (n n' : Pages) (x : Result (Unit {0}) Fault) → Kept n → Syncs n x n' → Kept n') (r : Result (Unit {0}) Fault) (m' : Pages) where
    row_from : (j k b : ℕ) (n : Pages) → j + k ≡ total → b ≡ first + j → Erased first j m n → Kept n → ErasesRow b k n r m' → RowLeft first total m r m' × Kept m'
    row_from j zero b n sum at e kept call = (erased_ends j b n at e (omega arith) r m' call, syncing n m' r kept call)
    row_from j (suc k) b n sum at e kept (inl broken) = go r broken
      where
        go : (x : Result (Unit {0}) Fault) → Breaks b n x m' → RowLeft first total m x m' × Kept m'
        go (Ok x) h = absurd h
        go (Err f) h = (erased_breaks j b n at e (omega arith) f m' h, erasing b n m' (Err f) (omega arith) (omega arith) kept h)
    row_from j (suc k) b n sum at e kept (inr (n', call, rest)) =
        row_from (j + 1) k (suc b) n' (omega arith) (omega arith) (erased_more j b n at e n' call) (erasing b n n' (Ok tt) (omega arith) (omega arith) kept call) rest

    row_left : (b k : ℕ) → m.on ≡ true → b ≡ first → k ≡ total → Kept m → ErasesRow b k m r m' → RowLeft first total m r m' × Kept m'
    row_left b k on at same kept row = row_from 0 k b m (omega arith) (omega arith) (erased_none first m on) kept row

-- The whole chip.
pub wiped_row : (m : Pages) → AllSettled m → (r : Result (Unit {0}) Fault) (m' : Pages) (blocks : ℕ) → m.on ≡ true → blocks ≡ m.size → ErasesRow 0 blocks m r m' → Wiped m r m'
wiped_row m still r m' blocks on same row =
    go r (row_left 0 m.size m still (omega arith) (λ _. Unit {0}) (λ _ _ _ _ _ _ _ _. tt) (λ _ _ _ _ _. tt) r m' 0 blocks on refl same tt row).0
  where
    go : (x : Result (Unit {0}) Fault) → RowLeft 0 m.size m x m' → Wiped m x m'
    go (Ok _) h = record {
      power = h.erased.power;
      size = h.erased.size;
      settled_all = h.flat;
      blanks = λ p l. h.erased.gone p (omega arith, omega arith);
    }
    go (Err f) h = h.0

-- The other area.
pub record Cleared (active : Area) (m : Pages) (r : Result (Unit {0}) Fault) (n : Pages) : Type 0 where
  pub done : Landing m (cleared active (shown m)) r n
  pub others : Beside active m n
  pub held : StillHolds active m n

module _ (active : Area) (m : Pages) (still : AllSettled m) (large : 12 ≤ m.size) (r : Result (Unit {0}) Fault) (m' : Pages) where
  abbrev first : ℕ
  first = first_block (other_area active)

  out_of : (p : ℕ) → in_area (other_area active) p ≡ false → Inside first 4 p → ⊥
  out_of p out i = blocks_outside (other_area active) p out i.0 i.1

  pub cleared_row : (b k : ℕ) → m.on ≡ true → b ≡ first → k ≡ 4 → ErasesRow b k m r m' → Cleared active m r m'
  cleared_row b k on at four row =
      go r
      (row_left first 4 m still (omega (arith, blocks_below (other_area active))) (StillHolds active m)
      (λ c n n' x low high kept call D num t small h. (safe_steps D small).other_block n n' active num t c x (kept D num t small h) low high call)
      (λ n n' x kept call D num t small h. (safe_steps D small).syncing n n' active num t x (kept D num t small h) call)
      r m' b k on at four (λ D num t small h. h) row)
    where
      go : (x : Result (Unit {0}) Fault) → RowLeft first 4 m x m' × StillHolds active m m' → Cleared active m x m'
      go (Ok _) (h, held) = record {
        done = record {
          power = h.erased.power;
          size = h.erased.size;
          cells = λ p. ⊎_elim
              (λ (i : in_area (other_area active) p ≡ true). rw i (settled_as m' p blank (h.flat p) (h.erased.gone p (blocks_inside (other_area active) p i))))
              (λ (o : in_area (other_area active) p ≡ false). rw o (h.erased.rest p (out_of p o) ∙ settled_reads (m.cell p) (still p)))
              (cases_Bool (in_area (other_area active) p));
        };
        others = λ p out. h.erased.rest p (out_of p out);
        held = held;
      }
      go (Err f) (h, held) = record { done = h.0; others = λ p out. h.1 p (out_of p out); held = held }
