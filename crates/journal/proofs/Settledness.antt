-- Settled pages: what each call makes of them, and that a call which the chip's state allows fails only with the power.
use Rattle.std.proofs.Common.{◌≡◌, ℕ, ◌*◌, ◌<◌, true, false, cond, eqb, ltb, List, length, Some, None, Ok, Err, Option, Result, sym, refl, ap, ◌∙◌, subst, inl, inr, ⊎_elim, arith}
use mathlib.Core.Path.{fun_ext}
use Rattle.std.proofs.lemmas.Bool.{eq-eqb, ne_eqb, lt-ltb, cases_eq, true≢false}
use Rattle.device.specs.declared.faults.Fault.{Fault}
use Rattle.device.specs.declared.faults.Refusal.TheVariants.{PowerOff}
use Rattle.device.specs.Cells.{Cell, reads, is_unsettled}
use Rattle.device.specs.Cells.Cell.{settled, unsettled}
use Rattle.device.specs.Calls.{Call, Served, Halted}
use Rattle.device.specs.Faults.{chip_fault}
use Rattle.device.specs.Chips.{Note, State, Pages, Programs, program_refusal, program_at, programmed, page_count, Syncs, sync_refusal, synced}
use Rattle.device.specs.Chips.State.{blank, held}
use Rattle.device.proofs.Settling.{early_settled, in_order_none}
use Rattle.device.proofs.Chipwise.{chip_reads}
use Rattle.recovery.specs.Looking.{shown}
use Rattle.journal.specs.Steps.{AllSettled, Lands, Fails}

pub settled_reads : (c : Cell State) → is_unsettled c ≡ false → c ≡ settled (reads c)
settled_reads (settled x) h = refl
settled_reads (unsettled was x) h = absurd (true≢false h)

pub settled_as : (m : Pages) (p : ℕ) (x : State) → is_unsettled (m.cell p) ≡ false → shown m p ≡ x → m.cell p ≡ settled x
settled_as m p x h e = settled_reads (m.cell p) h ∙ ap settled e

pub lands_settled : (m m' : Pages) (pages : ℕ → State) → Lands m pages m' → AllSettled m'
lands_settled m m' pages h p = ap is_unsettled (h.cells p)

pub lands_shown : (m m' : Pages) (pages : ℕ → State) → Lands m pages m' → shown m' ≡ pages
lands_shown m m' pages h = fun_ext (λ p. ap reads (h.cells p))

pub fails_then : (m n k : Pages) (f : Fault) → n.size ≡ m.size → Fails n f k → Fails m f k
fails_then m n k f e h = record { lost = h.lost; size = h.size ∙ e }

-- Of a call that is not refused, a fault is that of power failing.
pub call_lost : (refusal : Option Fault) (p : ℕ) (m n : Pages) (served halted : ℕ → Cell State → Type 0) (ok : Unit {0} → Type 0) (same : Type 0) (f : Fault)
    → refusal ≡ None → Call refusal (chip_fault p PowerOff) m served halted ok same (Err f) n → Fails m f n
call_lost refusal p m n served halted ok same f none (_, inl (e, _)) = let z : ◌≡◌ {A = Option Fault} None (Some f) = sym none ∙ e in grind arith
call_lost refusal p m n served halted ok same f none (_, inr (_, lost, k)) = record { lost = (k.power, (p, lost)); size = k.size }

pub sync_lost : (m n : Pages) (f : Fault) → m.on ≡ true → Syncs m (Err f) n → Fails m f n
sync_lost m n f on call = call_lost (sync_refusal m) 0 m n (Served (synced m)) (Halted m (synced m)) (λ _. Unit {0}) (Unit {0}) f (rw on) call

pub program_allowed : (m : Pages) (p len : ℕ) → m.on ≡ true → len ≡ 512 → p < 8 * m.size → m.cell p ≡ settled blank → program_refusal m p len ≡ None
program_allowed m p len on whole inside free =
    in_order_none m.on (chip_fault p PowerOff) (eqb len 512) (ltb p (page_count m)) (chip_fault p) (program_at p (m.cell p)) on (eq-eqb len 512 whole)
    (lt-ltb p (page_count m) inside) ∙ ap (program_at p) free

pub program_lost : (m n : Pages) (p : ℕ) (note : Note) (bytes : List ℕ) (f : Fault) → m.on ≡ true → length bytes ≡ 512 → p < 8 * m.size → m.cell p ≡ settled blank
    → Programs m p note bytes (Err f) n → Fails m f n
program_lost m n p note bytes f on whole inside free call =
    call_lost (program_refusal m p (length bytes)) p m n (Served (programmed m p note bytes)) (Halted m (programmed m p note bytes)) (λ _. Unit {0}) (Unit {0}) f
    (program_allowed m p (length bytes) on whole inside free) call

-- a cell that a call wants as it is, and that is settled, stays
pub wanted_stays : (refusal : Option Fault) (lost : Fault) (m n : Pages) (want : ℕ → Cell State) (ok : Unit {0} → Type 0) (same : Type 0) (r : Result (Unit {0}) Fault) (q : ℕ)
    (x : State) → Call refusal lost m (Served want) (Halted m want) ok same r n → m.cell q ≡ settled x → want q ≡ settled x → n.cell q ≡ settled x
wanted_stays refusal lost m n want ok same (Ok _) q x (_, _, k) was w = early_settled x (n.cell q) (subst (λ c. Served (λ _. c) q (n.cell q)) w (k.cells q))
wanted_stays refusal lost m n want ok same (Err f) q x (_, inl (_, e)) was w = ap (λ z. z.cell q) e ∙ was
wanted_stays refusal lost m n want ok same (Err f) q x (_, inr (_, _, k)) was w = go (k.cells q)
  where
    go : Halted m want q (n.cell q) → n.cell q ≡ settled x
    go (inl e) = e ∙ was
    go (inr e) = e ∙ w

-- whatever a sync answers, a settled page stays
pub sync_stays : (m n : Pages) (r : Result (Unit {0}) Fault) (q : ℕ) (x : State) → Syncs m r n → m.cell q ≡ settled x → n.cell q ≡ settled x
sync_stays m n r q x call was = wanted_stays _ _ m n (synced m) _ _ r q x call was (ap (λ c. settled (reads c)) was)

-- whatever a program answers, a settled page that it is not of stays
pub program_stays : (m n : Pages) (p : ℕ) (note : Note) (bytes : List ℕ) (r : Result (Unit {0}) Fault) (q : ℕ) (x : State) → Programs m p note bytes r n → (q ≡ p → ⊥)
    → m.cell q ≡ settled x → n.cell q ≡ settled x
program_stays m n p note bytes r q x call ne was = wanted_stays _ _ m n (programmed m p note bytes) _ _ r q x call was (rw (ne_eqb q p ne) was)

-- A sync that is served settles everything as it reads.
pub sync_lands : (m n : Pages) → Syncs m (Ok tt) n → Lands m (shown m) n
sync_lands m n (_, _, k) = record { power = k.power; size = k.size; cells = λ p. early_settled (reads (m.cell p)) (n.cell p) (k.cells p) }

-- A program that is served, and a sync behind it, settle the page as wanted and the others as they read.
abbrev pub with_page : ℕ → State → (ℕ → State) → ℕ → State
with_page p x pages q = cond (eqb q p) x (pages q)

pub program_reads : (m n : Pages) (p : ℕ) (note : Note) (bytes : List ℕ) → Programs m p note bytes (Ok tt) n → shown n ≡ with_page p (held note bytes) (shown m)
program_reads m n p note bytes call = fun_ext (λ q. go q (chip_reads.after_program m n p note bytes call))
  where
    go : (q : ℕ) → (shown n p ≡ held note bytes) × ((q : ℕ) → (q ≡ p → ⊥) → shown n q ≡ shown m q) → shown n q ≡ with_page p (held note bytes) (shown m) q
    go q (here, away) = ⊎_elim
        (λ (e : q ≡ p). rw (eq-eqb q p e, e) here)
        (λ (ne : q ≡ p → ⊥). rw (ne_eqb q p ne) (away q ne))
        (cases_eq q p)

pub programmed_lands : (m m₁ m₂ : Pages) (p : ℕ) (note : Note) (bytes : List ℕ) → Programs m p note bytes (Ok tt) m₁ → Syncs m₁ (Ok tt) m₂
    → Lands m (with_page p (held note bytes) (shown m)) m₂
programmed_lands m m₁ m₂ p note bytes call sync =
    let h = sync_lands m₁ m₂ sync in
    record { power = h.power; size = h.size ∙ call.2.size; cells = λ q. h.cells q ∙ ap (λ s. settled (s q)) (program_reads m m₁ p note bytes call) }
