-- Orders of work that lose a block, and what goes wrong in each: why a commit syncs the data first, why a reclaim commits before it erases, and why the log is
-- read past a torn page.
use Rattle.std.specs.Prelude.{◌≡◌, ℕ, suc, ◌<◌, ◌≤◌, true, false, cond, ◌⊎◌, List, [], ◌∷◌, length, Some, None, Ok, ◌==◌, ◌≢◌}
use Rattle.device.specs.Cells.Cell.{unsettled}
use Rattle.device.specs.Chips.{State, Pages, block_of, data_page_at, Programs, program_refusal, Erases}
use Rattle.device.specs.Chips.State.{blank, torn, held}
use Rattle.layout.specs.declared.areas.Area.{Area}
use Rattle.layout.specs.declared.areas.Area.TheVariants.{One}
use Rattle.layout.specs.declared.entries.Mark.TheVariants.{Dirty}
use Rattle.layout.specs.declared.records.Record.{Record}
use Rattle.layout.specs.declared.records.Record.TheVariants.{PutDirty}
use Rattle.layout.specs.Geometry.{log_pages, log_page_at}
use Rattle.layout.specs.Pages.{log_note, log_data, ProperLog}
use Rattle.table.specs.Tables.{Table, marked_at, replayed, empty_table, entered}
use Rattle.table.specs.Tables as tables
use Rattle.recovery.specs.Recovering.{Logged}
use Rattle.crash.specs.Crash.{Holds, HoldsEither, BlankFrom}

-- Log and data under one sync. The next log page gives data page i a mark while that page is unsettled over blank. The program is served, and after it the
-- chip may be such that a cut leaves neither the old table nor the new one.
abbrev pub OneSyncLoses : ℕ → Type 0
OneSyncLoses D = (m : Pages) (area : Area) (n : ℕ) (t u : Table) (j i : ℕ) (x : State) (records : List Record)
    → Holds D m area n t → j < log_pages D → BlankFrom D m area j → ProperLog records → replayed (Some t) records ≡ Some u
    → i < D → m.cell (data_page_at i) ≡ unsettled blank x → marked_at t i ≡ false → marked_at u i ≡ true
    → program_refusal m (log_page_at D area j) (length (log_data records)) ≡ None
    → (m' : Pages) × Programs m (log_page_at D area j) (log_note records) (log_data records) (Ok tt) m' × (HoldsEither D m' area n t area n u → ⊥)

-- Erase before commit. The erase block of a page that the table still marks is erased: whatever settled in the call, the chip no longer holds the table.
abbrev pub EraseFirstLoses : ℕ → Type 0
EraseFirstLoses D = (m m' : Pages) (area : Area) (n : ℕ) (t : Table) (i : ℕ)
    → Holds D m area n t → i < D → marked_at t i ≡ true → Erases m (block_of (data_page_at i)) (Ok tt) m' → Holds D m' area n t → ⊥

-- A log of which nothing is read from the first torn page on: `stop` is that page, or the end.
pub record LoggedStopping (D : ℕ) (s : ℕ → State) (area : Area) (k : ℕ) (t u : Table) : Type 0 where
  pub stop : ℕ
  pub next : ℕ
  pub within : stop ≤ k
  pub whole : (i : ℕ) → i < stop → s (log_page_at D area i) ≢ torn
  pub ends : (stop ≡ k) ⊎ (s (log_page_at D area stop) ≡ torn)
  pub log : Logged D s area stop t u next

-- log page j is the first torn one, the page behind it holds records that turn t into u, and the log ends there; b is the table that the log begins with
pub record TornInside (D : ℕ) (s : ℕ → State) (area : Area) (j : ℕ) (b t u : Table) (records : List Record) : Type 0 where
  pub room : suc j < log_pages D
  pub next : ℕ
  pub before : Logged D s area j b t next
  pub whole : (i : ℕ) → i < j → s (log_page_at D area i) ≢ torn
  pub tear : s (log_page_at D area j) ≡ torn
  pub proper : ProperLog records
  pub behind : s (log_page_at D area (suc j)) ≡ held (log_note records) (log_data records)
  pub makes : replayed (Some t) records ≡ Some u
  pub rest : (i : ℕ) → suc (suc j) ≤ i → i < log_pages D → s (log_page_at D area i) ≡ blank

-- A replay that stops at a torn page reads t where the log says u: what was committed behind the torn page is lost.
abbrev pub StoppingLoses : ℕ → Type 0
StoppingLoses D = (s : ℕ → State) (area : Area) (j : ℕ) (b t u : Table) (records : List Record) → TornInside D s area j b t u records
    → Logged D s area (log_pages D) b u (suc (suc j)) × LoggedStopping D s area (log_pages D) b t
    × ((v : Table) → LoggedStopping D s area (log_pages D) b v → v ≡ t)

-- For example, with 32 data pages: the log of the first area has a torn page, and behind it a page that says that data page 0 now has disk address 7, dirty.
abbrev pub put_seven : List Record
put_seven = PutDirty (record { 0 = 0 }) (record { 0 = 7 }) ∷ []

abbrev pub torn_log : ℕ → State
torn_log q = cond (q == log_page_at 32 One 0) torn (cond (q == log_page_at 32 One 1) (held (log_note put_seven) (log_data put_seven)) blank)

-- over the empty table, the log has address 7 on data page 0, and a replay that stops has it nowhere
abbrev pub StoppingLosesSeven : Type 0
StoppingLosesSeven = Logged 32 torn_log One (log_pages 32) (empty_table 32) (entered (empty_table 32) 0 Dirty 7) 2
    × (tables.held (entered (empty_table 32) 0 Dirty 7) 7 ≡ true)
    × ((v : Table) → LoggedStopping 32 torn_log One (log_pages 32) (empty_table 32) v → tables.held v 7 ≡ false)
