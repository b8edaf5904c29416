-- The orders of work that lose a block: for each, the way of a power cut, or the log, in which it does.
use Rattle.std.proofs.Common.{◌≡◌, ℕ, suc, ◌<◌, ◌≤◌, true, false, cond, eqb, ◌⊎◌, List, Some, sym, refl, ap, ◌∙◌, subst, inl, inr, ⊎_elim, arith}
use Rattle.std.proofs.lemmas.Bool.{eq-eqb, ne_eqb, cases_eq, cases_order, true≢false}
use Rattle.device.specs.Cells.{reads, Leaves}
use Rattle.device.specs.Cells.Cell.{unsettled}
use Rattle.device.specs.Chips.{Note, State, Pages, Tears, block_of, data_page_at, programmed}
use Rattle.device.specs.Chips.State.{blank, torn, held}
use Rattle.device.proofs.Chipwise.{chip_reads}
use Rattle.device.proofs.Settling.{ends_reads}
use Rattle.layout.specs.declared.areas.Area.{Area}
use Rattle.layout.specs.declared.areas.Area.TheVariants.{One}
use Rattle.layout.specs.declared.entries.Mark.TheVariants.{Dirty}
use Rattle.layout.specs.declared.records.Record.{Record}
use Rattle.layout.specs.Geometry.{entry_pages, log_pages, entry_page_at, log_page_at}
use Rattle.layout.specs.Pages.{log_note, log_data, ProperLog}
use Rattle.table.specs.Tables.{Table, marked_at, replayed, empty_table, entered}
use Rattle.table.specs.Tables as tables
use Rattle.recovery.specs.Recovering.{Entered, LogStep, Logged}
use Rattle.recovery.proofs.Stages.{base_one, logged_one}
use Rattle.crash.specs.Crash.{Finds, Holds, BlankFrom}
use Rattle.crash.specs.Orders.{OneSyncLoses, EraseFirstLoses, LoggedStopping, TornInside, StoppingLoses, put_seven, torn_log, StoppingLosesSeven}
use Rattle.crash.proofs.Ways.{settled_way}
use Rattle.crash.proofs.Cuts.{first_small, logged_same, logged_down, logged_up}

not_held : (x : State) (note : Note) (bytes : List ℕ) → x ≡ blank → x ≡ held note bytes → ⊥
not_held x note bytes e d = let z : blank ≡ held note bytes = sym e ∙ d in grind arith

-- Log and data under one sync.
module _ (D : ℕ) (small : D ≤ 448) (m : Pages) (area : Area) (n : ℕ) (t u : Table) (j i : ℕ) (x : State) (records : List Record)
    (h : Holds D m area n t) (few : j < log_pages D) (free : BlankFrom D m area j) (ok : ProperLog records) (makes : replayed (Some t) records ≡ Some u)
    (inside : i < D) (early : m.cell (data_page_at i) ≡ unsettled blank x) (unmarked : marked_at t i ≡ false) (marked : marked_at u i ≡ true) where
  -- the way before the program in which the data page is blank
  abbrev old : ℕ → State
  old q = cond (eqb q (data_page_at i)) blank (reads (m.cell q))

  old_leaves : Leaves Tears m.cell old
  old_leaves q =
      ⊎_elim
      (λ (e : q ≡ data_page_at i). rw (eq-eqb q (data_page_at i) e, e, early) (inl refl))
      (λ (ne : q ≡ data_page_at i → ⊥). rw (ne_eqb q (data_page_at i) ne) (ends_reads Tears (m.cell q) (reads (m.cell q)) refl))
      (cases_eq q (data_page_at i))

  -- and the one after it in which the log page is there
  abbrev cut : ℕ → State
  cut q = cond (eqb q (log_page_at D area j)) (held (log_note records) (log_data records)) (old q)

  cut_leaves : Leaves Tears (programmed m (log_page_at D area j) (log_note records) (log_data records)) cut
  cut_leaves q =
      ⊎_elim
      (λ (e : q ≡ log_page_at D area j). rw (eq-eqb q (log_page_at D area j) e) (inr (inl refl)))
      (λ (ne : q ≡ log_page_at D area j → ⊥). rw (ne_eqb q (log_page_at D area j) ne) (old_leaves q))
      (cases_eq q (log_page_at D area j))

  away : (q : ℕ) → (q ≡ log_page_at D area j → ⊥) → cut q ≡ old q
  away q ne = rw (ne_eqb q (log_page_at D area j) ne)

  log_there : cut (log_page_at D area j) ≡ held (log_note records) (log_data records)
  log_there = rw (eq-eqb (log_page_at D area j) (log_page_at D area j) refl)

  data_blank : cut (data_page_at i) ≡ blank
  data_blank = away (data_page_at i) (λ e. omega (arith, first_small area)) ∙ rw (eq-eqb (data_page_at i) (data_page_at i) refl)

  was_old : Finds D old area n t
  was_old = h old old_leaves

  old_blank : (k : ℕ) → j ≤ k → k < log_pages D → old (log_page_at D area k) ≡ blank
  old_blank k a b = settled_way m.cell old (log_page_at D area k) blank old_leaves (free k a b)

  upto : Logged D cut area j was_old.1.base t was_old.0
  upto =
      logged_same D small cut old area j (λ k l. away (log_page_at D area k) (λ e. omega arith)) was_old.1.base t was_old.0
      (logged_down D small old area (log_pages D) j (omega arith) old_blank was_old.1.base t was_old.0 was_old.1.log)

  -- the log now makes the new table
  log_now : Logged D cut area (log_pages D) was_old.1.base u (suc j)
  log_now =
      logged_up D small cut area (log_pages D) (suc j) (omega arith)
      (λ k a b. away (log_page_at D area k) (λ e. omega arith) ∙ old_blank k (omega arith) b) was_old.1.base u (suc j)
      (t, was_old.0, upto, subst (λ z. LogStep z j t was_old.0 u (suc j)) (sym log_there) (records, ok, refl, refl, makes, refl))

  entries_now : Entered D cut area (entry_pages D) was_old.1.base
  entries_now = record {
    long = was_old.1.entries.long;
    pages = λ k l. away (entry_page_at area k) (λ e. omega arith) ∙ was_old.1.entries.pages k l;
    proper = was_old.1.entries.proper;
    distinct = was_old.1.entries.distinct;
  }

  not_old : Finds D cut area n t → ⊥
  not_old (next, r) =
      let base : was_old.1.base ≡ r.base = base_one D cut small area n r.active.own was_old.1.base r.base entries_now r.entries in
      let same : u ≡ t =
      (logged_one D cut area (log_pages D) r.base u t (suc j) next (subst (λ b. Logged D cut area (log_pages D) b u (suc j)) base log_now) r.log).0 in
      true≢false (sym marked ∙ ap (λ z. marked_at z i) same ∙ unmarked)

  not_new : Finds D cut area n u → ⊥
  not_new (next, r) = let (bytes, e) = r.backed i inside marked in not_held (cut (data_page_at i)) _ bytes data_blank e

  neither : Finds D cut area n t ⊎ Finds D cut area n u → ⊥
  neither (inl z) = not_old z
  neither (inr z) = not_new z

pub one_sync_loses : (D : ℕ) → D ≤ 448 → OneSyncLoses D
one_sync_loses D small m area n t u j i x records h few free ok makes inside early unmarked marked allowed =
    let after : Pages = record { on = true; size = m.size; cell = programmed m (log_page_at D area j) (log_note records) (log_data records) } in (
      after,
      (allowed, tt, record { power = refl; size = refl; cells = λ q. inl refl }),
      λ either. neither D small m area n t u j i x records h few free ok makes inside early unmarked marked
          (either (cut D small m area n t u j i x records h few free ok makes inside early unmarked marked)
          (cut_leaves D small m area n t u j i x records h few free ok makes inside early unmarked marked)),
    )

-- Erase before commit: the way in which every page is as it reads.
pub erase_first_loses : (D : ℕ) → EraseFirstLoses D
erase_first_loses D m m' area n t i h inside marked call held_still =
    let found = held_still (λ q. reads (m'.cell q)) (λ q. ends_reads Tears (m'.cell q) (reads (m'.cell q)) refl) in
    let (bytes, e) = found.1.backed i inside marked in
    not_held (reads (m'.cell (data_page_at i))) _ bytes ((chip_reads.after_erase m m' (block_of (data_page_at i)) call).0 (data_page_at i) refl) e

-- A replay that stops at a torn page.
module _ (D : ℕ) (s : ℕ → State) (area : Area) (j : ℕ) (b t u : Table) (records : List Record) (g : TornInside D s area j b t u records) where
  past_tear : Logged D s area (suc (suc j)) b u (suc (suc j))
  past_tear = (
    t,
    suc j,
    (t, g.next, g.before, subst (λ z. LogStep z j t g.next t (suc j)) (sym g.tear) (refl, refl)),
    subst (λ z. LogStep z (suc j) t (suc j) u (suc (suc j))) (sym g.behind) (records, g.proper, refl, refl, g.makes, refl),
  )

  stops_there : (v : Table) (l : LoggedStopping D s area (log_pages D) b v) → l.stop ≡ j
  stops_there v l = go (cases_order l.stop j)
    where
      not_before : l.stop < j → (l.stop ≡ log_pages D) ⊎ (s (log_page_at D area l.stop) ≡ torn) → ⊥
      not_before a (inl e) = omega (arith, g.room)
      not_before a (inr e) = g.whole l.stop a e

      go : (l.stop ≡ j) ⊎ ((l.stop < j) ⊎ (j < l.stop)) → l.stop ≡ j
      go (inl e) = e
      go (inr (inl a)) = absurd (not_before a l.ends)
      go (inr (inr a)) = absurd (l.whole j a g.tear)

  reads_old : (v : Table) → LoggedStopping D s area (log_pages D) b v → v ≡ t
  reads_old v l =
      (logged_one D s area j b v t l.next g.next (subst (λ z. Logged D s area z b v l.next) (stops_there v l) l.log) g.before).0

pub stopping_loses : (D : ℕ) → D ≤ 448 → StoppingLoses D
stopping_loses D small s area j b t u records g = (
  logged_up D small s area (log_pages D) (suc (suc j)) (omega (arith, g.room)) g.rest b u (suc (suc j)) (past_tear D s area j b t u records g),
  record { stop = j; next = g.next; within = omega (arith, g.room); whole = g.whole; ends = inr g.tear; log = g.before },
  reads_old D s area j b t u records g,
)

pub seven_proper : ProperLog put_seven
seven_proper = record { some = omega arith; few = omega arith; each = ((omega arith, omega arith), tt) }

seven_torn : TornInside 32 torn_log One 0 (empty_table 32) (empty_table 32) (entered (empty_table 32) 0 Dirty 7) put_seven
seven_torn = record {
  room = omega arith;
  next = 0;
  before = (refl, refl);
  whole = λ i l. absurd (omega arith);
  tear = refl;
  proper = seven_proper;
  behind = refl;
  makes = refl;
  rest = λ i a l. rw (ne_eqb (log_page_at 32 One i) (log_page_at 32 One 0) (λ e. omega arith), ne_eqb (log_page_at 32 One i) (log_page_at 32 One 1) (λ e. omega arith));
}

pub stopping_loses_seven : StoppingLosesSeven
stopping_loses_seven =
    let (log, stopped, only) = stopping_loses 32 (omega arith) torn_log One 0 (empty_table 32) (empty_table 32) (entered (empty_table 32) 0 Dirty 7) put_seven seven_torn in
    (log, refl, λ v l. ap (λ z. tables.held z 7) (only v l))
