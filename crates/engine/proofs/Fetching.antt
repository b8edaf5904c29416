-- The read of a page that the table in memory marks: it is held, so only the power can fail.
use Rattle.std.proofs.Common.{◌≡◌, ℕ, ◌*◌, ◌<◌, true, eqb, ltb, List, length, Ok, Err, Result, sym, ap, ◌∙◌, subst, inl, inr, arith}
use Rattle.std.proofs.lemmas.Bool.{eq-eqb, lt-ltb}
use Rattle.device.specs.declared.faults.Fault.{Fault}
use Rattle.device.specs.declared.faults.Refusal.TheVariants.{PowerOff}
use Rattle.device.specs.Cells.{Early}
use Rattle.device.specs.Calls.{Served, Halted}
use Rattle.device.specs.Chips.{Note, Pages, Reads, read_refusal, read_at, page_count, data_page_at}
use Rattle.device.specs.Chips.State.{held}
use Rattle.device.specs.Faults.{chip_fault}
use Rattle.device.proofs.Settling.{in_order_none}
use Rattle.layout.specs.Pages.{data_note}
use Rattle.recovery.specs.Looking.{shown, Quiet}
use Rattle.recovery.proofs.Lookwise.{quiet_none}
use Rattle.table.specs.Tables.{Table, entry_at}
use Rattle.table.specs.Views.{AloneAt}
use Rattle.table.proofs.Tablewise.{holds_parts}
use Rattle.space.specs.declared.blanks.Space.{Space}
use Rattle.journal.specs.Notes.{Noted}
use Rattle.journal.specs.Ready.{Ready}
use Rattle.journal.specs.Steps.{Fails}
use Rattle.engine.specs.Works.{Holding, Fetches}
use Rattle.journal.proofs.Leaving.{left_of_holds}
use Rattle.engine.proofs.Quietly.{quiet_cell, quiet_leaves}
use Rattle.journal.proofs.Settledness.{call_lost}

-- whatever a read answers, the chip was only looked at
read_quiet : (m n : Pages) (p : ℕ) (buf after : List ℕ) (r : Result Note Fault) → Reads m p buf r after n → Quiet m n
read_quiet m n p buf after (Ok note) (_, _, k) = record { size = k.size; cells = k.cells }
read_quiet m n p buf after (Err f) (_, inl (_, e)) = quiet_none m n e
read_quiet m n p buf after (Err f) (_, inr (_, _, k)) = record { size = k.size; cells = λ q. as_was (k.cells q) }
  where
    as_was : {q : ℕ} → Halted m m.cell q (n.cell q) → Early (m.cell q) (n.cell q)
    as_was (inl e) = inl e
    as_was (inr e) = inl e

read_lost : (m n : Pages) (p : ℕ) (buf after : List ℕ) (f : Fault) (note : Note) (bytes : List ℕ) → m.on ≡ true → length buf ≡ 512 → p < 8 * m.size → shown m p ≡ held note bytes
    → Reads m p buf (Err f) after n → Fails m f n
read_lost m n p buf after f note bytes on whole inside is call =
    call_lost (read_refusal m p (length buf)) p m n (Served m.cell) (Halted m m.cell) (λ _. Unit {0}) (after ≡ buf) f
    (in_order_none m.on (chip_fault p PowerOff) (eqb (length buf) 512) (ltb p (page_count m)) (chip_fault p) (read_at p (shown m p)) on (eq-eqb (length buf) 512 whole)
    (lt-ltb p (page_count m) inside) ∙ ap (read_at p) is)
    call

-- i is the data page that holds the address a.
module _ (D a i : ℕ) (m : Pages) (v : Noted) (only : AloneAt v.table a i) where
  -- it is there, and held as a data page of the address
  page_inside : (t : Table) → Ready D m v t → data_page_at i < 8 * m.size
  page_inside t h = omega (arith, only.inside, h.long, h.large, h.enough)

  page_held : (t : Table) → Ready D m v t → (bytes : List ℕ) × (shown m (data_page_at i) ≡ held (data_note a) bytes)
  page_held t h =
      let parts = holds_parts a (entry_at v.table i) only.here in
      let (bytes, e) = h.backed i (omega (arith, only.inside, h.long)) parts.0 in
      (bytes, e ∙ ap (λ k. held (data_note k) bytes) parts.1)

  module _ (n : Pages) (sp : Space) (buf after : List ℕ) (p : ℕ) (at : p ≡ data_page_at i) (t₀ : Table) (h₀ : Holding D m v sp t₀) where
    pub not_fetched : (f : Fault) → length buf ≡ 512 → Reads m p buf (Err f) after n → Fetches D a m v sp buf (Err f) after n
    not_fetched f whole call =
        let quiet = read_quiet m n p buf after (Err f) call in
        let ready = h₀.keeps.ready in
        let (bytes, e) = page_held t₀ ready in
        let inside : p < 8 * m.size = subst (λ q. q < 8 * m.size) (sym at) (page_inside t₀ ready) in (
          call.0,
          read_lost m n p buf after f (data_note a) bytes ready.power whole inside (ap (shown m) at ∙ e) call,
          λ t h. left_of_holds D n v.area v.number t (shown m) (λ s l. h.keeps.ready.holds s (quiet_leaves m n quiet s l)) (λ k l marked. quiet_cell m n quiet (data_page_at k) (h.keeps.ready.firm k l marked)),
        )
