-- A call that its conditions allow is served, or power fails in it; and whichever it is, it leaves the settled pages that it does not change.
use Rattle.std.proofs.Common.{◌≡◌, ℕ, zero, suc, ◌<◌, true, false, cond, ◌&&◌, eqb, ltb, List, length, Some, None, Ok, Err, Option, Result, sym, refl, ap, ◌∙◌, inl, inr, ⊎_elim}
use Rattle.std.proofs.lemmas.Bool.{ne_eqb, cases_eq, lt-ltb, or_from, and_left, and_right}
use Rattle.device.specs.declared.faults.Fault.{Fault}
use Rattle.device.specs.declared.faults.Refusal.TheVariants.{Unsettled}
use Rattle.device.specs.Cells.{Cell, reads, is_unsettled}
use Rattle.device.specs.Cells.Cell.{settled}
use Rattle.device.specs.Faults.{chip_fault}
use Rattle.device.specs.Calls.{Call, Served, Halted}
use Rattle.device.specs.Chips.{Note, State, Pages, page_count, block_of, Programs, program_refusal, programmed, Erases, erase_refusal, erased_block, unsettled_in, Syncs, synced}
use Rattle.device.proofs.Settling.{in_order_none, early_settled}
use Rattle.recovery.specs.Looking.{shown}
use Rattle.journal.specs.Steps.{Fails}
use Rattle.journal.proofs.Settledness.{settled_reads, call_lost}

-- The conditions of the calls.

-- no page of the block is unsettled among the first k
pub settled_block : (pages : ℕ → Cell State) (b k : ℕ) → ((q : ℕ) → block_of q ≡ b → is_unsettled (pages q) ≡ false) → unsettled_in pages b k ≡ false
unfolding unsettled_in
settled_block pages b zero free = refl
settled_block pages b (suc k) free = or_from _ _ here (settled_block pages b k free)
  where
    here : (eqb (block_of k) b && is_unsettled (pages k)) ≡ false
    here = ⊎_elim (λ (e : block_of k ≡ b). and_right _ _ (free k e)) (λ (ne : block_of k ≡ b → ⊥). and_left _ _ (ne_eqb (block_of k) b ne)) (cases_eq (block_of k) b)

pub erase_allowed : (m : Pages) (b : ℕ) → m.on ≡ true → b < m.size → ((q : ℕ) → block_of q ≡ b → is_unsettled (m.cell q) ≡ false) → erase_refusal m b ≡ None
erase_allowed m b on inside free =
    in_order_none m.on _ true (ltb b m.size) (chip_fault b) _ on refl (lt-ltb b m.size inside)
    ∙ ap (λ u. cond u (Some (chip_fault b Unsettled)) None) (settled_block m.cell b (page_count m) free)

-- What an allowed call that is not served leaves.

pub erase_fails : (m n : Pages) (b : ℕ) (f : Fault) → erase_refusal m b ≡ None → Erases m b (Err f) n → Fails m f n
erase_fails m n b f none call =
    call_lost (erase_refusal m b) b m n (Served (erased_block m b)) (Halted m (erased_block m b)) (λ _. Unit {0}) (Unit {0}) f none call

pub program_fails : (m n : Pages) (p : ℕ) (note : Note) (bytes : List ℕ) (f : Fault) → program_refusal m p (length bytes) ≡ None → Programs m p note bytes (Err f) n → Fails m f n
program_fails m n p note bytes f none call =
    call_lost (program_refusal m p (length bytes)) p m n (Served (programmed m p note bytes)) (Halted m (programmed m p note bytes)) (λ _. Unit {0})
    (Unit {0}) f none call

-- A settled cell that a call does not want changed.
call_beside : {T : Type 0} (refusal : Option Fault) (lost : Fault) (m n : Pages) (want : ℕ → Cell State) (ok : T → Type 0) (same : Type 0) (r : Result T Fault)
    → Call refusal lost m (Served want) (Halted m want) ok same r n → (q : ℕ) → want q ≡ m.cell q → is_unsettled (m.cell q) ≡ false → n.cell q ≡ m.cell q
call_beside refusal lost m n want ok same (Ok x) (_, _, k) q w u = go (k.cells q)
  where
    go : Served want q (n.cell q) → n.cell q ≡ m.cell q
    go (inl e) = e ∙ w
    go (inr e) = e ∙ ap (λ c. settled (reads c)) w ∙ sym (settled_reads (m.cell q) u)
call_beside refusal lost m n want ok same (Err f) (_, inl (_, k)) q w u = ap (λ z. z.cell q) k
call_beside refusal lost m n want ok same (Err f) (_, inr (_, _, k)) q w u = go (k.cells q)
  where
    go : Halted m want q (n.cell q) → n.cell q ≡ m.cell q
    go (inl e) = e
    go (inr e) = e ∙ w

pub erase_beside : (m n : Pages) (b : ℕ) (r : Result (Unit {0}) Fault) → Erases m b r n → (q : ℕ) → (block_of q ≡ b → ⊥) → is_unsettled (m.cell q) ≡ false → n.cell q ≡ m.cell q
erase_beside m n b r call q ne u = call_beside _ _ m n (erased_block m b) _ _ r call q (rw (ne_eqb (block_of q) b ne)) u

pub program_beside : (m n : Pages) (p : ℕ) (note : Note) (bytes : List ℕ) (r : Result (Unit {0}) Fault) → Programs m p note bytes r n → (q : ℕ) → (q ≡ p → ⊥)
    → is_unsettled (m.cell q) ≡ false → n.cell q ≡ m.cell q
program_beside m n p note bytes r call q ne u = call_beside _ _ m n (programmed m p note bytes) _ _ r call q (rw (ne_eqb q p ne)) u

pub sync_beside : (m n : Pages) (r : Result (Unit {0}) Fault) → Syncs m r n → (q : ℕ) → is_unsettled (m.cell q) ≡ false → n.cell q ≡ m.cell q
sync_beside m n r call q u = call_beside _ _ m n (synced m) _ _ r call q (sym (settled_reads (m.cell q) u)) u

-- a served sync settles each page as it reads
pub sync_settles : (m n : Pages) → Syncs m (Ok tt) n → (q : ℕ) → n.cell q ≡ settled (shown m q)
sync_settles m n call q = early_settled (shown m q) (n.cell q) (call.2.cells q)
