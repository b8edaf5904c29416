-- Power-on: a power cut leaves every page settled, so looking changes nothing, and what recovery finds is what the chip holds.
use Rattle.std.proofs.Common.{◌≡◌, ℕ, zero, suc, ◌<◌, ◌≤◌, true, ◌&&◌, leb, Some, None, Ok, Err, sym, refl, ap, ◌∙◌, subst, inl, inr, ⊎_elim, arith}
use mathlib.Core.Path.{fun_ext}
use Rattle.std.proofs.lemmas.Bool.{cases_eq, cond-true, and_from, le-leb}
use Rattle.device.specs.declared.faults.Fault.{Fault}
use Rattle.device.specs.Cells.{is_unsettled, Cut, Leaves}
use Rattle.device.specs.Chips.{State, Pages, Tears, Powers, data_page_at}
use Rattle.device.specs.Chips.State.{blank, torn, held}
use Rattle.device.proofs.Chipwise.{chip_cuts}
use Rattle.crash.specs.Crash.{Holds}
use Rattle.crash.proofs.Ways.{settled_way}
use Rattle.layout.specs.declared.areas.Area.{Area}
use Rattle.layout.specs.Geometry.{geometry_refusal, data_pages, log_pages, log_page_at}
use Rattle.recovery.specs.Looking.{shown, Quiet, Lost}
use Rattle.recovery.specs.Recovering.{Found, LogStep, Logged, Recovered, Failed}
use Rattle.recovery.specs.declared.restored.Restored.{Restored}
use Rattle.recovery.specs.Restoring.{found_of, Restores}
use Rattle.recovery.proofs.Lookwise.{quiet_then}
use Rattle.recovery.proofs.Wholly.{logged_length, moved}
use Rattle.table.specs.Tables.{Table, ProperTable}
use Rattle.table.proofs.Keeping.{table_proper}
use Rattle.space.specs.declared.blanks.Space.{Space}
use Rattle.journal.specs.declared.memory.Journal.{Journal}
use Rattle.journal.specs.Notes.{noted}
use Rattle.journal.specs.Ready.{Ready}
use Rattle.journal.specs.Steps.{AllSettled}
use Rattle.engine.specs.Works.{Holding, CutTo, recovered_as, Woken, StaysDark}
use Rattle.space.specs.Worlds.{Fits}
use Rattle.journal.proofs.Settledness.{settled_reads, settled_as}
use Rattle.engine.proofs.Quietly.{quiet_same, quiet_fits}

pub cut_settled : (m m' : Pages) → CutTo m m' → AllSettled m'
cut_settled m m' h p = ap is_unsettled (h p).1

pub powered : (blocks : ℕ) (m m₁ : Pages) → m.size ≡ blocks → Powers m (Ok tt) m₁ → (m₁.on ≡ true) × (m₁.size ≡ blocks) × AllSettled m₁
powered blocks m m₁ fits on = (on.2.power, on.2.size ∙ fits, cut_settled m m₁ on.2.cells)

-- The rest of the log, behind the last page that is not blank, is blank.
step_blank : (s : ℕ → State) (D : ℕ) (area : Area) (k : ℕ) (t : Table) (n : ℕ) (u : Table) (m : ℕ) → n ≤ k → ((j : ℕ) → n ≤ j → j < k → s (log_page_at D area j) ≡ blank)
    → (x : State) → s (log_page_at D area k) ≡ x → LogStep x k t n u m → (m ≤ suc k) × ((j : ℕ) → m ≤ j → j < suc k → s (log_page_at D area j) ≡ blank)
step_blank s D area k t n u m few before blank is (_, e) = (
  omega arith,
  λ j l below. ⊎_elim (λ (same : j ≡ k). ap (λ i. s (log_page_at D area i)) same ∙ is) (λ (ne : j ≡ k → ⊥). before j (omega arith) (omega arith)) (cases_eq j k),
)
step_blank s D area k t n u m few before torn is (_, e) = (omega arith, λ j l below. absurd (omega arith))
step_blank s D area k t n u m few before (held note bytes) is (_, _, _, _, _, e) = (omega arith, λ j l below. absurd (omega arith))

pub rest_blank : (s : ℕ → State) (D : ℕ) (area : Area) (k : ℕ) (t u : Table) (m : ℕ) → Logged D s area k t u m
    → (m ≤ k) × ((j : ℕ) → m ≤ j → j < k → s (log_page_at D area j) ≡ blank)
rest_blank s D area zero t u m (_, e) = (omega arith, λ j l below. absurd (omega arith))
rest_blank s D area (suc k) t u m (v, n, h, step) =
    let (few, before) = rest_blank s D area k t v n h in
    step_blank s D area k v n u m few before (s (log_page_at D area k)) refl step

-- a settled chip can be left in one way only
pub found_holds : (D : ℕ) (m : Pages) (f : Found) → AllSettled m → Recovered D (shown m) f → Holds D m f.area f.number f.table
found_holds D m f firm found s l =
    let same : shown m ≡ s = fun_ext (λ p. sym (settled_way m.cell s p (shown m p) l (settled_reads (m.cell p) (firm p)))) in
    (f.next, subst (λ z. Recovered D z f) same found)

pub ready_found : (D : ℕ) (m : Pages) (f : Found) → m.on ≡ true → 12 ≤ m.size → m.size ≤ 64 → D ≡ data_pages m.size → AllSettled m → Recovered D (shown m) f
    → ProperTable f.table → Ready D m (recovered_as f) f.table
ready_found D m f on enough few large firm found proper =
    let (ends, rest) = rest_blank (shown m) D f.area (log_pages D) found.base f.table f.next found.log in
    record {
      power = on;
      enough = enough;
      few = few;
      large = large;
      holds = found_holds D m f firm found;
      small = found.active.own.small;
      makes = refl;
      room = omega arith;
      records = tt;
      long = logged_length D (shown m) f.area (log_pages D) found.base f.table f.next found.log ∙ found.entries.long;
      proper = proper;
      ends = ends;
      ahead = λ k l below. settled_as m (log_page_at D f.area k) blank (firm (log_page_at D f.area k)) (rest k l below);
      areas = λ p _. firm p;
      firm = λ i _ _. firm (data_page_at i);
      backed = found.backed;
      blanks = λ i _ _. firm (data_page_at i);
    }

pub served_size : (blocks : ℕ) → 12 ≤ blocks → blocks ≤ 64 → geometry_refusal blocks ≡ None
served_size blocks enough few = cond-true (leb 12 blocks && leb blocks 64) None _ (and_from (leb 12 blocks) (leb blocks 64) (le-leb 12 blocks enough) (le-leb blocks 64 few))

-- A chip that a power-on left, and that was looked at since.
module _ (m m₁ n : Pages) (on : Powers m (Ok tt) m₁) (quiet : Quiet m₁ n) where
  same : n.cell ≡ m₁.cell
  same = quiet_same m₁ n quiet (cut_settled m m₁ on.2.cells)

  pub looked_cut : CutTo m n
  looked_cut p = subst (λ c. Cut Tears (m.cell p) (c p)) (sym same) (on.2.cells p)

  pub looked_size : n.size ≡ m.size
  looked_size = quiet.size ∙ on.2.size

  pub looked_lost : (D : ℕ) (f : Fault) → Lost f n → StaysDark D m f n
  looked_lost D f lost = (looked_size, inl (lost, λ s l. chip_cuts.at_power_on m m₁ (Ok tt) s on (subst (λ c. Leaves Tears c s) same l)))

  pub recovery_dark : (blocks : ℕ) (f : Fault) → m.size ≡ blocks → 12 ≤ blocks → blocks ≤ 64 → Restores m₁ (Err f) n → StaysDark (data_pages blocks) m f n
  recovery_dark blocks f fits enough few (inl (e, _)) =
      let z : None ≡ Some f = sym (served_size blocks enough few) ∙ ap geometry_refusal (sym (on.2.size ∙ fits)) ∙ e in grind arith
  recovery_dark blocks f fits enough few (inr (_, inl lost)) = looked_lost (data_pages blocks) f lost
  recovery_dark blocks f fits enough few (inr (_, inr (power, failed))) =
      (looked_size, inr (power, looked_cut, subst (λ s. Failed (data_pages blocks) s f) (sym (moved m₁ n quiet)) (subst (λ b. Failed (data_pages b) (shown m₁) f) (on.2.size ∙ fits) failed)))

-- the journal and the space that are made of what recovery and a scan find
module _ (blocks : ℕ) (m m₁ m₂ m₃ : Pages) (fits : m.size ≡ blocks) (enough : 12 ≤ blocks) (few : blocks ≤ 64) (on : Powers m (Ok tt) m₁) (first : Quiet m₁ m₂) (second : Quiet m₂ m₃) where
  quiet : Quiet m₁ m₃
  quiet = quiet_then m₁ m₂ m₃ first second

  pub awake : (r : Restored) (j : Journal) (sp : Space) → Restores m₁ (Ok r) m₂ → m₃.on ≡ true → Fits (data_pages blocks) m₂ sp → sp.cursor.0 ≡ 0
      → noted j ≡ recovered_as (found_of r) → Woken (data_pages blocks) m m₃ j sp
  awake r j sp (_, _, found) power agrees start is =
      let D = data_pages blocks in
      let f = found_of r in
      let shown_same : shown m₁ ≡ shown m₃ = sym (moved m₁ m₃ quiet) in
      let there : Recovered D (shown m₃) f = subst (λ s. Recovered D s f) shown_same (subst (λ b. Recovered (data_pages b) (shown m₁) f) (on.2.size ∙ fits) found) in
      let large : m₃.size ≡ blocks = looked_size m m₁ m₃ on quiet ∙ fits in
      let ready : Ready D m₃ (recovered_as f) f.table =
      ready_found D m₃ f power (omega (arith, enough)) (omega (arith, few)) (ap data_pages (sym large)) (cut_settled m m₃ (looked_cut m m₁ m₃ on quiet)) there (table_proper r.table) in
      record {
        size = looked_size m m₁ m₃ on quiet;
        cut = looked_cut m m₁ m₃ on quiet;
        found = f;
        recovered = there;
        as_found = is;
        start = start;
        holding = subst (λ v. Holding D m₃ v sp v.table) (sym is) (record {
          keeps = record { ready = ready; fits = quiet_fits m₂ m₃ second D sp agrees };
          onward = λ a h. h;
        });
      }
