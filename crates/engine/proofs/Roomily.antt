-- What a commit leaves of the world, of the data pages and of what holds between calls; and the commit that comes before the 65th record.
use Rattle.std.proofs.Common.{◌≡◌, ℕ, ◌+◌, ◌-◌, ◌<◌, ◌≤◌, true, false, cond, eqb, ltb, leb, List, [], ◌∷◌, length, Ok, Err, Result, sym, refl, ap, ◌∙◌, subst, inl, inr, arith}
use Rattle.std.proofs.lemmas.Bool.{eqb-true, eqb-false, ltb-true, le-ltb, ne_eqb, and_right, cond-true, cond-false, cond_both}
use Rattle.device.specs.declared.faults.Fault.{Fault}
use Rattle.device.specs.Chips.{State, Pages, data_page_at}
use Rattle.layout.specs.declared.areas.Area.{Area}
use Rattle.layout.specs.declared.records.Record.{Record}
use Rattle.layout.specs.Geometry.{log_pages, log_page_at, first_page, other_area}
use Rattle.layout.specs.Laws.{log_page}
use Rattle.recovery.specs.Looking.{shown}
use Rattle.table.specs.Tables.{Table}
use Rattle.crash.proofs.Cuts.{first_small}
use Rattle.space.specs.declared.blanks.Space.{Space}
use Rattle.engine.specs.Moves.{roomy}
use Rattle.journal.specs.Notes.{Noted, in_area, logged_pages, logged, checkpoint_page, checkpoint_pages, checkpointed, next_number, committed_pages, committed}
use Rattle.journal.specs.Steps.{Commits}
use Rattle.engine.specs.Works.{Onward, Holding, MakesRoomy}
use Rattle.space.specs.Worlds.{World, world, is_blank, Fits, committing}
use Rattle.journal.proofs.Settledness.{lands_shown}

-- A commit keeps the table, leaves nothing staged, and touches no data page.

pub committed_table : (D : ℕ) (v : Noted) → (committed D v).table ≡ v.table
committed_table D v =
    cond_both (eqb (length v.staged) 0) v (cond (ltb v.next (log_pages D)) (logged v) (checkpointed v)) (λ u. u.table ≡ v.table) (λ _. refl)
    (λ _. cond_both (ltb v.next (log_pages D)) (logged v) (checkpointed v) (λ u. u.table ≡ v.table) (λ _. refl) (λ _. refl))

none_left : (rs : List Record) → eqb (length rs) 0 ≡ true → rs ≡ []
none_left [] h = refl
none_left (r ∷ rs) h = let k = eqb-true (length (r ∷ rs)) 0 h in absurd (omega arith)

pub committed_staged : (D : ℕ) (v : Noted) → (committed D v).staged ≡ []
committed_staged D v =
    cond_both (eqb (length v.staged) 0) v (cond (ltb v.next (log_pages D)) (logged v) (checkpointed v)) (λ u. u.staged ≡ []) (none_left v.staged)
    (λ _. cond_both (ltb v.next (log_pages D)) (logged v) (checkpointed v) (λ u. u.staged ≡ []) (λ _. refl) (λ _. refl))

logged_away : (D : ℕ) (v : Noted) (pages : ℕ → State) (i : ℕ) → v.next < log_pages D → logged_pages D v pages (data_page_at i) ≡ pages (data_page_at i)
logged_away D v pages i l =
    let small = first_small v.area in
    cond-false (eqb (data_page_at i) (log_page_at D v.area v.next)) (log_page v.staged) (pages (data_page_at i))
    (ne_eqb (data_page_at i) (log_page_at D v.area v.next) (λ e. omega arith))

checkpoint_away : (D : ℕ) (area : Area) (n : ℕ) (t : Table) (pages : ℕ → State) (i : ℕ) → checkpoint_pages D area n t pages (data_page_at i) ≡ pages (data_page_at i)
checkpoint_away D area n t pages i =
    let small = first_small area in
    cond-false (in_area area (data_page_at i)) (checkpoint_page D area n t (data_page_at i - first_page area)) (pages (data_page_at i))
    (and_right (leb (first_page area) (data_page_at i)) (ltb (data_page_at i) (first_page area + 32)) (le-ltb (data_page_at i) (first_page area + 32) (omega arith)))

pub committed_away : (D : ℕ) (v : Noted) (pages : ℕ → State) (i : ℕ) → committed_pages D v pages (data_page_at i) ≡ pages (data_page_at i)
committed_away D v pages i =
    let P : (ℕ → State) → Type 0 = λ s. s (data_page_at i) ≡ pages (data_page_at i) in
    let full = checkpoint_pages D (other_area v.area) (next_number v.number) v.table pages in
    cond_both (eqb (length v.staged) 0) pages (cond (ltb v.next (log_pages D)) (logged_pages D v pages) full) P (λ _. refl)
    (λ _. cond_both (ltb v.next (log_pages D)) (logged_pages D v pages) full P (λ l. logged_away D v pages i (ltb-true v.next (log_pages D) l))
    (λ _. checkpoint_away D (other_area v.area) (next_number v.number) v.table pages i))

-- What a commit that is served leaves.

module _ (D : ℕ) (m : Pages) (v : Noted) (sp : Space) (m' : Pages) (v' : Noted) (done : Commits D m v (Ok tt) m' v') where
  pub commit_world : world m' v' sp ≡ committing D (world m v sp)
  commit_world = let p = lands_shown m m' (committed_pages D v (shown m)) done.0 in λ i. record { pages = p i; noted = done.1 i; cursor = sp.cursor.0 }

  pub commit_table : v'.table ≡ v.table
  commit_table = ap (λ u. u.table) done.1 ∙ committed_table D v

  commit_fits : Fits D m sp → Fits D m' sp
  commit_fits h = record {
    long = h.long;
    each = λ i l. h.each i l ∙ sym (ap is_blank (ap (λ s. s (data_page_at i)) (lands_shown m m' (committed_pages D v (shown m)) done.0) ∙ committed_away D v (shown m) i));
  }

  pub commit_holding : (t : Table) → Holding D m v sp t → Holding D m' v' sp v.table
  commit_holding t h = record {
    keeps = record { ready = done.2 t h.keeps.ready; fits = commit_fits h.keeps.fits };
    onward = subst (Onward v.table) (sym commit_table) (λ a e. e);
  }

-- Room for one more record.

pub roomy_commits : (D : ℕ) (m : Pages) (v : Noted) (sp : Space) (r : Result (Unit {0}) Fault) (m' : Pages) (v' : Noted) → eqb (length v.staged) 64 ≡ true
    → Commits D m v r m' v' → MakesRoomy D m v sp r m' v'
roomy_commits D m v sp (Ok tt) m' v' full h = (
  h.0.size,
  commit_world D m v sp m' v' h ∙ sym (cond-true (eqb (length v.staged) 64) (committing D (world m v sp)) (world m v sp) full),
  λ t k. (v.table, commit_holding D m v sp m' v' h t k, inr refl),
)
roomy_commits D m v sp (Err f) m' v' full h = (h.0, λ t k. h.1 t k.keeps.ready)

pub roomy_stays : (D : ℕ) (m : Pages) (v : Noted) (sp : Space) → eqb (length v.staged) 64 ≡ false → MakesRoomy D m v sp (Ok tt) m v
roomy_stays D m v sp free =
    (refl, sym (cond-false (eqb (length v.staged) 64) (committing D (world m v sp)) (world m v sp) free), λ t k. (t, k, inl refl))

-- What it keeps, with a commit or without one.

module _ (D : ℕ) (w : World) where
  pub roomy_table : (roomy D w).noted.table ≡ w.noted.table
  roomy_table = cond_both (eqb (length w.noted.staged) 64) (committing D w) w (λ u. u.noted.table ≡ w.noted.table) (λ _. committed_table D w.noted) (λ _. refl)

  pub roomy_away : (j : ℕ) → (roomy D w).pages (data_page_at j) ≡ w.pages (data_page_at j)
  roomy_away j = cond_both (eqb (length w.noted.staged) 64) (committing D w) w (λ u. u.pages (data_page_at j) ≡ w.pages (data_page_at j))
      (λ _. committed_away D w.noted w.pages j) (λ _. refl)

  pub roomy_room : length w.noted.staged ≤ 64 → length (roomy D w).noted.staged < 64
  roomy_room h = cond_both (eqb (length w.noted.staged) 64) (committing D w) w (λ u. length u.noted.staged < 64)
      (λ _. let e = ap length (committed_staged D w.noted) in omega arith)
      (λ n. let ne = eqb-false (length w.noted.staged) 64 n in omega arith)
