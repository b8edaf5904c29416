-- What a power cut can do to the mapping table on a chip: a chip holds a table if recovery finds it whichever way a cut goes.
use Rattle.std.specs.Prelude.{◌≡◌, ℕ, ◌+◌, ◌%◌, ◌<◌, ◌≤◌, true, false, ◌⊎◌, List, length, Some, Ok, Result}
use Rattle.device.specs.declared.faults.Fault.{Fault}
use Rattle.device.specs.Cells.{Leaves}
use Rattle.device.specs.Cells.Cell.{settled}
use Rattle.device.specs.Chips.{Note, State, Pages, Tears, block_of, data_page_at, Reads, Programs, Erases, Syncs, Powers}
use Rattle.device.specs.Chips.State.{blank, held}
use Rattle.layout.specs.declared.areas.Area.{Area}
use Rattle.layout.specs.declared.records.Record.{Record}
use Rattle.layout.specs.Geometry.{first_page, other_area, entry_pages, log_pages, entry_page_at, trailer_at, log_page_at}
use Rattle.layout.specs.Pages.{entry_note, entry_data, trailer_note, trailer_data, log_note, log_data, ProperLog, data_note}
use Rattle.table.specs.Tables.{Table, entry_at, marked_at, replayed, ProperTable}
use Rattle.recovery.specs.Recovering.{Recovered}

-- recovery finds this table, in this area under this number
abbrev pub Finds : ℕ → (ℕ → State) → Area → ℕ → Table → Type 0
Finds D s area n t = (next : ℕ) × Recovered D s (record { table = t; area = area; number = n; next = next })

-- Whichever way a power cut leaves the chip, recovery finds the table.
abbrev pub Holds : ℕ → Pages → Area → ℕ → Table → Type 0
Holds D m area n t = (s : ℕ → State) → Leaves Tears m.cell s → Finds D s area n t

-- the same of one of two tables
abbrev pub HoldsEither : ℕ → Pages → Area → ℕ → Table → Area → ℕ → Table → Type 0
HoldsEither D m area n t area' n' t' = (s : ℕ → State) → Leaves Tears m.cell s → Finds D s area n t ⊎ Finds D s area' n' t'

-- every data page that the table marks is settled, and held with its address
abbrev pub SettledBacked : ℕ → Pages → Table → Type 0
SettledBacked D m t = (i : ℕ) → i < D → marked_at t i ≡ true → (bytes : List ℕ) × (m.cell (data_page_at i) ≡ settled (held (data_note (entry_at t i).address.0) bytes))

-- the log pages of an area from j on are blank and settled
abbrev pub BlankFrom : ℕ → Pages → Area → ℕ → Type 0
BlankFrom D m area j = (k : ℕ) → j ≤ k → k < log_pages D → m.cell (log_page_at D area k) ≡ settled blank

-- the area's entry pages are settled, and those of the table
abbrev pub SettledEntries : ℕ → Pages → Area → Table → Type 0
SettledEntries D m area t = (j : ℕ) → j < entry_pages D → m.cell (entry_page_at area j) ≡ settled (held (entry_note j) (entry_data t j))

-- The laws, each for whatever the call answered, power failing in it included. Tables have D entries, at most 448.
pub record SafeSteps (D : ℕ) : Type 0 where
  -- a data page without a mark is programmed
  pub data_page : (m m' : Pages) (area : Area) (n : ℕ) (t : Table) (i : ℕ) (note : Note) (bytes : List ℕ) (r : Result (Unit {0}) Fault)
      → Holds D m area n t → marked_at t i ≡ false → Programs m (data_page_at i) note bytes r m' → Holds D m' area n t
  -- an erase block without a page that the table marks, behind both areas, is erased
  pub data_block : (m m' : Pages) (area : Area) (n : ℕ) (t : Table) (b : ℕ) (r : Result (Unit {0}) Fault)
      → Holds D m area n t → 8 ≤ b → ((i : ℕ) → block_of (data_page_at i) ≡ b → marked_at t i ≡ false) → Erases m b r m' → Holds D m' area n t
  -- an erase block of the other area is erased
  pub other_block : (m m' : Pages) (area : Area) (n : ℕ) (t : Table) (b : ℕ) (r : Result (Unit {0}) Fault)
      → Holds D m area n t → block_of (first_page (other_area area)) ≤ b → b < block_of (first_page (other_area area)) + 4 → Erases m b r m' → Holds D m' area n t
  -- an entry page of the other area is programmed
  pub other_entry : (m m' : Pages) (area : Area) (n : ℕ) (t : Table) (j : ℕ) (note : Note) (bytes : List ℕ) (r : Result (Unit {0}) Fault)
      → Holds D m area n t → j < entry_pages D → Programs m (entry_page_at (other_area area) j) note bytes r m' → Holds D m' area n t
  -- the trailer of the other area is programmed with the next number, over the settled checkpoint of a table whose data pages are settled
  pub other_trailer : (m m' : Pages) (area : Area) (n : ℕ) (t u : Table) (r : Result (Unit {0}) Fault)
      → Holds D m area n t → n < 3 → length u ≡ D → ProperTable u → SettledEntries D m (other_area area) u → BlankFrom D m (other_area area) 0 → SettledBacked D m u
      → Programs m (trailer_at D (other_area area)) (trailer_note D ((n + 1) % 3)) (trailer_data (other_area area) D) r m'
      → HoldsEither D m' area n t (other_area area) ((n + 1) % 3) u
  -- the next log page is programmed, with the data pages of the table that it makes settled
  pub next_log : (m m' : Pages) (area : Area) (n : ℕ) (t u : Table) (j : ℕ) (records : List Record) (r : Result (Unit {0}) Fault)
      → Holds D m area n t → j < log_pages D → BlankFrom D m area j → ProperLog records → replayed (Some t) records ≡ Some u → SettledBacked D m u
      → Programs m (log_page_at D area j) (log_note records) (log_data records) r m' → HoldsEither D m' area n t area n u
  -- once a sync is served behind the log page, or behind the trailer, the new table is the only one
  pub log_committed : (m m₁ m₂ : Pages) (area : Area) (n : ℕ) (t u : Table) (j : ℕ) (records : List Record) → Holds D m area n t → j < log_pages D → BlankFrom D m area j
      → ProperLog records → replayed (Some t) records ≡ Some u → SettledBacked D m u → Programs m (log_page_at D area j) (log_note records) (log_data records) (Ok tt) m₁
      → Syncs m₁ (Ok tt) m₂ → Holds D m₂ area n u
  pub trailer_committed : (m m₁ m₂ : Pages) (area : Area) (n : ℕ) (t u : Table) → Holds D m area n t → n < 3 → length u ≡ D → ProperTable u
      → SettledEntries D m (other_area area) u → BlankFrom D m (other_area area) 0 → SettledBacked D m u
      → Programs m (trailer_at D (other_area area)) (trailer_note D ((n + 1) % 3)) (trailer_data (other_area area) D) (Ok tt) m₁ → Syncs m₁ (Ok tt) m₂
      → Holds D m₂ (other_area area) ((n + 1) % 3) u
  -- a form ends so: a settled checkpoint with a blank log, and no trailer in the other area
  pub formed : (m : Pages) (area : Area) (n : ℕ) (t : Table) → n < 3 → length t ≡ D → ProperTable t → SettledEntries D m area t
      → m.cell (trailer_at D area) ≡ settled (held (trailer_note D n) (trailer_data area D)) → m.cell (trailer_at D (other_area area)) ≡ settled blank
      → BlankFrom D m area 0 → SettledBacked D m t → Holds D m area n t
  -- a read, a sync and a power-on lose nothing
  pub reading : (m m' : Pages) (area : Area) (n : ℕ) (t : Table) (p : ℕ) (buf after : List ℕ) (r : Result Note Fault)
      → Holds D m area n t → Reads m p buf r after m' → Holds D m' area n t
  pub syncing : (m m' : Pages) (area : Area) (n : ℕ) (t : Table) (r : Result (Unit {0}) Fault) → Holds D m area n t → Syncs m r m' → Holds D m' area n t
  pub powering : (m m' : Pages) (area : Area) (n : ℕ) (t : Table) (r : Result (Unit {0}) Fault) → Holds D m area n t → Powers m r m' → Holds D m' area n t
  pub either_syncing : (m m' : Pages) (area : Area) (n : ℕ) (t : Table) (area' : Area) (n' : ℕ) (t' : Table) (r : Result (Unit {0}) Fault)
      → HoldsEither D m area n t area' n' t' → Syncs m r m' → HoldsEither D m' area n t area' n' t'
  pub either_powering : (m m' : Pages) (area : Area) (n : ℕ) (t : Table) (area' : Area) (n' : ℕ) (t' : Table) (r : Result (Unit {0}) Fault)
      → HoldsEither D m area n t area' n' t' → Powers m r m' → HoldsEither D m' area n t area' n' t'
