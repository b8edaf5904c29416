-- A commit step by step: the sync before it, and the next log page with the sync behind it.
use Rattle.std.proofs.Common.{◌≡◌, ℕ, suc, ◌+◌, ◌*◌, ◌<◌, ◌≤◌, true, false, eqb, ltb, List, [], ◌∷◌, length, Some, Ok, Err, Result, sym, refl, ap, ◌∙◌, subst, ap₂, arith}
use Rattle.std.proofs.lemmas.Bool.{eqb-true, ne_eqb, lt-ltb, le-ltb}
use Rattle.device.specs.declared.faults.Fault.{Fault}
use Rattle.device.specs.Cells.{reads}
use Rattle.device.specs.Cells.Cell.{settled}
use Rattle.device.specs.Chips.{Note, State, Pages, data_page_at, Programs, Syncs}
use Rattle.device.specs.Chips.State.{blank}
use Rattle.layout.specs.declared.areas.Area.{Area}
use Rattle.layout.specs.declared.records.Record.{Record}
use Rattle.layout.specs.Geometry.{log_pages, log_page_at, other_area}
use Rattle.layout.specs.Pages.{log_note, log_data, ProperLog}
use Rattle.table.specs.Tables.{Table, replayed}
use Rattle.recovery.specs.Looking.{shown}
use Rattle.recovery.specs.Recovering.{Backed}
use Rattle.crash.specs.Crash.{SettledBacked}
use Rattle.crash.proofs.Cuts.{safe_steps, first_small}
use Rattle.journal.specs.Notes.{Noted, logged, logged_pages, checkpoint_pages, next_number, checkpointed, committed_pages, committed}
use Rattle.journal.specs.Points.{Left, Either, point}
use Rattle.journal.specs.Ready.{Ready}
use Rattle.journal.specs.Steps.{AllSettled, Lands, Fails, CommitsAs, Commits}
use Rattle.journal.proofs.Settledness.{settled_reads, settled_as, lands_settled, lands_shown, sync_lost, program_lost, sync_stays, program_stays, sync_lands, programmed_lands}
use Rattle.journal.proofs.Leaving.{Firm, left_of_holds, left_of_either, left_first}

-- a point of before, or of the table in memory
abbrev pub OldOrNew : ℕ → Pages → Noted → Table → Pages → Type 0
OldOrNew D m v t m' = Left D m' (Either (point t (shown m)) (point v.table (shown m)))

-- a commit in which power failed
abbrev pub CutShort : ℕ → Pages → Noted → Fault → Pages → Type 0
CutShort D m v f m' = Fails m f m' × ((t : Table) → Ready D m v t → OldOrNew D m v t m')

-- these records staged, and this log page next
abbrev pub with_next : Noted → List Record → ℕ → Noted
with_next v staged n = record { table = v.table; staged = staged; area = v.area; number = v.number; next = n }

module _ (D : ℕ) (m : Pages) (v : Noted) (t : Table) (h : Ready D m v t) where
  pub few_pages : D ≤ 448
  few_pages = omega (arith, h.large, h.few)

  pub firm_old : Firm D m t (shown m)
  firm_old i k e = settled_reads (m.cell (data_page_at i)) (h.firm i k e)

  -- The sync before a commit.

  pub sync_ready : (m₁ : Pages) → Syncs m (Ok tt) m₁ → Ready D m₁ v t
  sync_ready m₁ call =
      let lands = sync_lands m m₁ call in
      let flat = lands_settled m m₁ (shown m) lands in
      record {
        power = lands.power;
        enough = omega (arith, lands.size, h.enough);
        few = omega (arith, lands.size, h.few);
        large = rw lands.size h.large;
        holds = (safe_steps D few_pages).syncing m m₁ v.area v.number t (Ok tt) h.holds call;
        small = h.small;
        makes = h.makes;
        room = h.room;
        records = h.records;
        long = h.long;
        proper = h.proper;
        ends = h.ends;
        ahead = λ k a b. sync_stays m m₁ (Ok tt) (log_page_at D v.area k) blank call (h.ahead k a b);
        areas = λ p l. flat p;
        firm = λ i k e. flat (data_page_at i);
        backed = subst (λ s. Backed s v.table D) (sym (lands_shown m m₁ (shown m) lands)) h.backed;
        blanks = λ i k e. flat (data_page_at i);
      }

  pub sync_left : (m₁ : Pages) (f : Fault) → Syncs m (Err f) m₁ → OldOrNew D m v t m₁
  sync_left m₁ f call =
      left_first D m₁ (point t (shown m)) (point v.table (shown m))
      (left_of_holds D m₁ v.area v.number t (shown m) ((safe_steps D few_pages).syncing m m₁ v.area v.number t (Err f) h.holds call)
      (λ i k e. sync_stays m m₁ (Err f) (data_page_at i) (shown m (data_page_at i)) call (firm_old i k e)))

  -- The next log page, with everything settled.
  module _ (flat : AllSettled m) (some : 0 < length v.staged) (room : v.next < log_pages D) where
    abbrev p : ℕ
    p = log_page_at D v.area v.next

    log_blank : m.cell p ≡ settled blank
    log_blank = h.ahead v.next (omega arith) room

    log_low : p < 64
    log_low = omega (arith, first_small v.area)

    log_inside : p < 8 * m.size
    log_inside = omega (arith, log_low, h.enough)

    proper_log : ProperLog v.staged
    proper_log = record { some = some; few = h.room; each = h.records }

    backed_new : SettledBacked D m v.table
    backed_new i k e = let (bytes, is) = h.backed i k e in (bytes, settled_as m (data_page_at i) _ (flat (data_page_at i)) is)

    data_stays : (r : Result (Unit {0}) Fault) (m₁ : Pages) → Programs m p (log_note v.staged) (log_data v.staged) r m₁ → (i : ℕ)
        → m₁.cell (data_page_at i) ≡ settled (shown m (data_page_at i))
    data_stays r m₁ call i =
        program_stays m m₁ p (log_note v.staged) (log_data v.staged) r (data_page_at i) (shown m (data_page_at i)) call (λ e. omega (arith, log_low))
        (settled_reads (m.cell (data_page_at i)) (flat (data_page_at i)))

    pub log_left : (r : Result (Unit {0}) Fault) (m₁ : Pages) → Programs m p (log_note v.staged) (log_data v.staged) r m₁ → OldOrNew D m v t m₁
    log_left r m₁ call =
        left_of_either D m₁ v.area v.number t v.area v.number v.table (shown m)
        ((safe_steps D few_pages).next_log m m₁ v.area v.number t v.table v.next v.staged r h.holds room h.ahead proper_log h.makes backed_new call)
        (λ i k e. data_stays r m₁ call i) (λ i k e. data_stays r m₁ call i)

    pub log_fails : (m₁ : Pages) (f : Fault) → length (log_data v.staged) ≡ 512 → Programs m p (log_note v.staged) (log_data v.staged) (Err f) m₁ → Fails m f m₁
    log_fails m₁ f whole call = program_lost m m₁ p (log_note v.staged) (log_data v.staged) f h.power whole log_inside log_blank call

    -- the sync behind it
    module _ (m₁ m₂ : Pages) (call : Programs m p (log_note v.staged) (log_data v.staged) (Ok tt) m₁) where
      pub log_sync_fails : (f : Fault) → Syncs m₁ (Err f) m₂ → Fails m f m₂
      log_sync_fails f sync = let k = sync_lost m₁ m₂ f call.2.power sync in record { lost = k.lost; size = k.size ∙ call.2.size }

      pub log_sync_left : (f : Fault) → Syncs m₁ (Err f) m₂ → OldOrNew D m v t m₂
      log_sync_left f sync =
          let firm : (i : ℕ) → m₂.cell (data_page_at i) ≡ settled (shown m (data_page_at i)) =
          λ i. sync_stays m₁ m₂ (Err f) (data_page_at i) (shown m (data_page_at i)) sync (data_stays (Ok tt) m₁ call i) in
          left_of_either D m₂ v.area v.number t v.area v.number v.table (shown m)
          ((safe_steps D few_pages).either_syncing m₁ m₂ v.area v.number t v.area v.number v.table (Err f)
          ((safe_steps D few_pages).next_log m m₁ v.area v.number t v.table v.next v.staged (Ok tt) h.holds room h.ahead proper_log h.makes backed_new call)
          sync)
          (λ i k e. firm i) (λ i k e. firm i)

      pub log_lands : Syncs m₁ (Ok tt) m₂ → Lands m (logged_pages D v (shown m)) m₂
      log_lands sync = programmed_lands m m₁ m₂ p (log_note v.staged) (log_data v.staged) call sync

      log_away : Syncs m₁ (Ok tt) m₂ → (q : ℕ) → (q ≡ p → ⊥) → m₂.cell q ≡ settled (shown m q)
      log_away sync q ne = (log_lands sync).cells q ∙ rw (ne_eqb q p ne)

      data_away : Syncs m₁ (Ok tt) m₂ → (i : ℕ) → shown m₂ (data_page_at i) ≡ shown m (data_page_at i)
      data_away sync i = ap reads (log_away sync (data_page_at i) (λ e. omega (arith, log_low)))

      pub log_ready : Syncs m₁ (Ok tt) m₂ → Ready D m₂ (logged v) v.table
      log_ready sync =
          let lands = log_lands sync in
          let settles = lands_settled m m₂ (logged_pages D v (shown m)) lands in
          record {
            power = lands.power;
            enough = omega (arith, lands.size, h.enough);
            few = omega (arith, lands.size, h.few);
            large = rw lands.size h.large;
            holds = (safe_steps D few_pages).log_committed m m₁ m₂ v.area v.number t v.table v.next v.staged h.holds room h.ahead proper_log h.makes backed_new
                call sync;
            small = h.small;
            makes = refl;
            room = omega arith;
            records = tt;
            long = h.long;
            proper = h.proper;
            ends = room;
            ahead = λ k a b. log_away sync (log_page_at D v.area k) (λ e. omega arith) ∙ ap settled (ap reads (h.ahead k (omega arith) b));
            areas = λ q l. settles q;
            firm = λ i k e. settles (data_page_at i);
            backed = λ i k e. let (bytes, is) = h.backed i k e in (bytes, data_away sync i ∙ is);
            blanks = λ i k e. settles (data_page_at i);
          }

-- the program of the next log page, by what was programmed
pub log_call : (D : ℕ) (m m₁ : Pages) (area : Area) (next p : ℕ) (note : Note) (bytes : List ℕ) (staged : List Record) (r : Result (Unit {0}) Fault)
    → p ≡ log_page_at D area next → note ≡ log_note staged → bytes ≡ log_data staged → Programs m p note bytes r m₁
    → Programs m (log_page_at D area next) (log_note staged) (log_data staged) r m₁
log_call D m m₁ area next p note bytes staged r a b c call =
    subst (λ q. Programs m q (log_note staged) (log_data staged) r m₁) a
    (subst (λ x. Programs m p x (log_data staged) r m₁) b (subst (λ x. Programs m p note x r m₁) c call))

-- What a log answers: power failed in the program, or in the sync behind it, or both were served.
module _ (D : ℕ) (m m₁ : Pages) (v : Noted) (ready : (t : Table) × Ready D m v t) (flat : AllSettled m) (some : 0 < length v.staged) (room : v.next < log_pages D) where
  pub log_unprogrammed : (f : Fault) → length (log_data v.staged) ≡ 512 → Programs m (log_page_at D v.area v.next) (log_note v.staged) (log_data v.staged) (Err f) m₁
      → CutShort D m v f m₁
  log_unprogrammed f whole call = (log_fails D m v ready.0 ready.1 flat some room m₁ f whole call, (λ t h. log_left D m v t h flat some room (Err f) m₁ call))

  -- the program was served
  module _ (m₂ : Pages) (call : Programs m (log_page_at D v.area v.next) (log_note v.staged) (log_data v.staged) (Ok tt) m₁) where
    pub log_unsettled : (f : Fault) → Syncs m₁ (Err f) m₂ → CutShort D m v f m₂
    log_unsettled f sync =
        (log_sync_fails D m v ready.0 ready.1 flat some room m₁ m₂ call f sync, (λ t h. log_sync_left D m v t h flat some room m₁ m₂ call f sync))

    pub log_served : (staged : List Record) → staged ≡ [] → Syncs m₁ (Ok tt) m₂ → CommitsAs D m v (logged_pages D v (shown m)) (logged v) (Ok tt) m₂ (with_next v staged (v.next + 1))
    log_served staged none sync =
        let e : suc v.next ≡ v.next + 1 = omega arith in
        subst (λ w. CommitsAs D m v (logged_pages D v (shown m)) (logged v) (Ok tt) m₂ w) (ap₂ (with_next v) (sym none) e)
        (log_lands D m v ready.0 ready.1 flat some room m₁ m₂ call sync, refl, (λ t h. log_ready D m v t h flat some room m₁ m₂ call sync))

-- The sync before a commit failed.
pub unsynced : (D : ℕ) (m m₁ : Pages) (v : Noted) (f : Fault) → (t : Table) × Ready D m v t → Syncs m (Err f) m₁ → CutShort D m v f m₁
unsynced D m m₁ v f (t, h) call = (sync_lost m m₁ f h.power call, (λ u k. sync_left D m v u k m₁ f call))

-- The sync before a commit was served, and left what the rest of the commit was given.
module _ (D : ℕ) (m m₁ : Pages) (v : Noted) (sync : Syncs m (Ok tt) m₁) where
  same_shown : shown m₁ ≡ shown m
  same_shown = lands_shown m m₁ (shown m) (sync_lands m m₁ sync)

  pub synced_flat : AllSettled m₁
  synced_flat = lands_settled m m₁ (shown m) (sync_lands m m₁ sync)

  pub synced_ready : (t : Table) × Ready D m v t → (t : Table) × Ready D m₁ v t
  synced_ready (t, h) = (t, sync_ready D m v t h m₁ sync)

  pub behind_sync : (m₂ : Pages) (w v₂ : Noted) (made : (ℕ → State) → ℕ → State) (r : Result (Unit {0}) Fault) → CommitsAs D m₁ v (made (shown m₁)) w r m₂ v₂
      → CommitsAs D m v (made (shown m)) w r m₂ v₂
  behind_sync m₂ w v₂ made (Ok x) (lands, is, ready) = (
    record { power = lands.power; size = lands.size ∙ sync.2.size; cells = λ p. lands.cells p ∙ ap (λ s. settled (made s p)) same_shown },
    is,
    (λ t h. ready t (sync_ready D m v t h m₁ sync)),
  )
  behind_sync m₂ w v₂ made (Err f) (fails, left) = (
    record { lost = fails.lost; size = fails.size ∙ sync.2.size },
    (λ t h. subst (λ s. Left D m₂ (Either (point t s) (point v.table s))) same_shown (left t (sync_ready D m v t h m₁ sync))),
  )

-- The three ways of a commit behind its sync: nothing is staged, or there is a log page left, or there is none.
module _ (D : ℕ) (m m₁ m₂ : Pages) (v v₂ : Noted) (r : Result (Unit {0}) Fault) (sync : Syncs m (Ok tt) m₁) where
  as_committed : (pages : ℕ → State) (w : Noted) → committed_pages D v (shown m) ≡ pages → committed D v ≡ w → CommitsAs D m v pages w r m₂ v₂ → Commits D m v r m₂ v₂
  as_committed pages w a b h =
      subst (λ x. CommitsAs D m v x (committed D v) r m₂ v₂) (sym a) (subst (λ x. CommitsAs D m v pages x r m₂ v₂) (sym b) h)

  pub commit_logged : eqb (length v.staged) 0 ≡ false → v.next < log_pages D → CommitsAs D m₁ v (logged_pages D v (shown m₁)) (logged v) r m₂ v₂ → Commits D m v r m₂ v₂
  commit_logged a room h =
      let b : ltb v.next (log_pages D) ≡ true = lt-ltb v.next (log_pages D) room in
      as_committed (logged_pages D v (shown m)) (logged v) (rw (a, b)) (rw (a, b)) (behind_sync D m m₁ v sync m₂ (logged v) v₂ (logged_pages D v) r h)

  pub commit_checkpointed : eqb (length v.staged) 0 ≡ false → log_pages D ≤ v.next
      → CommitsAs D m₁ v (checkpoint_pages D (other_area v.area) (next_number v.number) v.table (shown m₁)) (checkpointed v) r m₂ v₂ → Commits D m v r m₂ v₂
  commit_checkpointed a full h =
      let b : ltb v.next (log_pages D) ≡ false = le-ltb v.next (log_pages D) full in
      let made = checkpoint_pages D (other_area v.area) (next_number v.number) v.table in
      as_committed (made (shown m)) (checkpointed v) (rw (a, b)) (rw (a, b)) (behind_sync D m m₁ v sync m₂ (checkpointed v) v₂ made r h)

none_staged : (t u : Table) (staged : List Record) → length staged ≡ 0 → replayed (Some t) staged ≡ Some u → t ≡ u
none_staged t u [] e h = cc
none_staged t u (r ∷ rs) e h = absurd (omega arith)

pub commit_nothing : (D : ℕ) (m m₁ : Pages) (v : Noted) → Syncs m (Ok tt) m₁ → eqb (length v.staged) 0 ≡ true → Commits D m v (Ok tt) m₁ v
commit_nothing D m m₁ v sync a =
    let none : length v.staged ≡ 0 = eqb-true (length v.staged) 0 a in
    as_committed D m m₁ m₁ v v (Ok tt) sync (shown m) v (rw a) (rw a)
    (sync_lands m m₁ sync, refl, (λ t h. subst (Ready D m₁ v) (none_staged t v.table v.staged none h.makes) (sync_ready D m v t h m₁ sync)))
