-- A commit leaves the data pages and the table in memory as they are, so what holds between calls holds again.
use Rattle.std.proofs.Common.{◌≡◌, ℕ, ◌+◌, ◌<◌, Bool, true, false, eqb, ltb, leb, length, Ok, Err, Result, sym, refl, ap, ◌∙◌, subst, ap₂, arith}
use Rattle.std.proofs.lemmas.Bool.{and_right, le-ltb, ltb-true, eqb-true, ne_eqb, cond_both}
use Rattle.device.specs.declared.faults.Fault.{Fault}
use Rattle.device.specs.Chips.{State, Pages, data_page_at}
use Rattle.crash.proofs.Cuts.{first_small}
use Rattle.layout.specs.declared.areas.Area.{Area}
use Rattle.layout.specs.Geometry.{log_pages, first_page, other_area, log_page_at}
use Rattle.recovery.specs.Looking.{shown}
use Rattle.table.specs.Tables.{held}
use Rattle.space.specs.declared.blanks.Space.{Space}
use Rattle.journal.specs.Notes.{Noted, in_area, logged_pages, checkpoint_pages, logged, checkpointed, next_number, committed_pages, committed}
use Rattle.journal.specs.Steps.{Lands, Commits}
use Rattle.engine.specs.Works.{Flushes}
use Rattle.space.specs.Worlds.{is_blank, blank_page, World, world, committing, Fits}
use Rattle.journal.proofs.Settledness.{lands_settled, lands_shown}

-- the data pages lie behind both areas
log_apart : (D : ℕ) (area : Area) (j i : ℕ) → j < log_pages D → data_page_at i ≡ log_page_at D area j → ⊥
log_apart D area j i l e = omega (arith, first_small area)

area_apart : (area : Area) (i : ℕ) → in_area area (data_page_at i) ≡ false
area_apart area i =
    and_right (leb (first_page area) (data_page_at i)) (ltb (data_page_at i) (first_page area + 32)) (le-ltb (data_page_at i) (first_page area + 32) (omega (arith, first_small area)))

module _ (D : ℕ) (v : Noted) where
  abbrev none : Bool
  none = eqb (length v.staged) 0

  abbrev in_log : Bool
  in_log = ltb v.next (log_pages D)

  pub commit_apart : (pages : ℕ → State) (i : ℕ) → committed_pages D v pages (data_page_at i) ≡ pages (data_page_at i)
  commit_apart pages i =
      cond_both none pages _ Same (λ _. refl)
      (λ _. cond_both in_log (logged_pages D v pages) (checkpoint_pages D (other_area v.area) (next_number v.number) v.table pages) Same
      (λ e. let l : v.next < log_pages D = ltb-true v.next (log_pages D) e in rw (ne_eqb (data_page_at i) (log_page_at D v.area v.next) (log_apart D v.area v.next i l)))
      (λ _. rw (area_apart (other_area v.area) i)))
    where
      Same : (ℕ → State) → Type 0
      Same s = s (data_page_at i) ≡ pages (data_page_at i)

  pub commit_table : (committed D v).table ≡ v.table
  commit_table = cond_both none v _ Same (λ _. refl) (λ _. cond_both in_log (logged v) (checkpointed v) Same (λ _. refl) (λ _. refl))
    where
      Same : Noted → Type 0
      Same w = w.table ≡ v.table

  -- with something staged, nothing is staged after it
  pub commit_empties : 0 < length v.staged → length (committed D v).staged ≡ 0
  commit_empties some =
      cond_both none v _ Empties (λ e. absurd (omega (arith, eqb-true (length v.staged) 0 e))) (λ _. cond_both in_log (logged v) (checkpointed v) Empties (λ _. refl) (λ _. refl))
    where
      Empties : Noted → Type 0
      Empties w = length w.staged ≡ 0

-- a commit that is served
module _ (D : ℕ) (m : Pages) (v : Noted) (m' : Pages) (v' : Noted) (sp : Space) (lands : Lands m (committed_pages D v (shown m)) m') where
  pub commit_world : v' ≡ committed D v → world m' v' sp ≡ committing D (world m v sp)
  commit_world e = let made : (ℕ → State) → Noted → World = λ s w. record { pages = s; noted = w; cursor = sp.cursor.0 } in ap₂ made (lands_shown m m' _ lands) e

  pub commit_fits : Fits D m sp → Fits D m' sp
  commit_fits h = record {
    long = h.long;
    each = λ i l. h.each i l ∙ sym (ap (λ s. blank_page s i) (lands_shown m m' _ lands) ∙ ap is_blank (commit_apart D v (shown m) i));
  }

pub flushes : (D : ℕ) (m : Pages) (v : Noted) (sp : Space) (r : Result (Unit {0}) Fault) (m' : Pages) (v' : Noted) → Commits D m v r m' v' → Flushes D m v sp r m' v'
flushes D m v sp (Ok x) m' v' (lands, e, ready) = (
  lands.size,
  (commit_world D m v m' v' sp lands e, lands_settled m m' _ lands),
  λ t h. (
    v.table,
    record {
      keeps = record { ready = ready t h.keeps.ready; fits = commit_fits D m v m' v' sp lands h.keeps.fits };
      onward = λ a x. subst (λ u. held u a ≡ true) (sym (ap (λ w. w.table) e ∙ commit_table D v)) x;
    },
    refl,
  ),
)
flushes D m v sp (Err f) m' v' (fails, left) = (fails, λ t h. left t h.keeps.ready)
