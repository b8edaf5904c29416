-- What the pages of a checkpoint or of a log say, they say in one way only.
use Rattle.std.specs.Prelude.{◌≡◌, ℕ, ◌<◌, ◌≤◌, List, length}
use Rattle.std.specs.List.{AllByRecursion}
use Rattle.device.specs.Chips.{State}
use Rattle.device.specs.Chips.State.{held}
use Rattle.layout.specs.declared.areas.Area.{Area}
use Rattle.layout.specs.declared.entries.Entry.{Entry}
use Rattle.layout.specs.declared.records.Record.{Record}
use Rattle.layout.specs.Geometry.{entry_pages, entry_page_at, trailer_at}
use Rattle.layout.specs.Entries.{ProperEntry}
use Rattle.layout.specs.Pages.{entry_note, entry_data, trailer_note, trailer_data, log_note, log_data, ProperLog}

-- the table of a chip of at most 64 erase blocks
pub record ProperTable (table : List Entry) : Type 0 where
  pub few : length table ≤ 448
  pub each : AllByRecursion ProperEntry table

abbrev pub entry_page : List Entry → ℕ → State
entry_page table j = held (entry_note j) (entry_data table j)

abbrev pub trailer_page : Area → ℕ → ℕ → State
trailer_page area pages number = held (trailer_note pages number) (trailer_data area pages)

abbrev pub log_page : List Record → State
log_page records = held (log_note records) (log_data records)

-- an area's pages are the checkpoint of a table, with this number
pub record Checkpoint (pages : ℕ → State) (area : Area) (table : List Entry) (number : ℕ) : Type 0 where
  pub entries : (j : ℕ) → j < entry_pages (length table) → pages (entry_page_at area j) ≡ entry_page table j
  pub trailer : pages (trailer_at (length table) area) ≡ trailer_page area (length table) number

abbrev pub OneCheckpoint : Type 0
OneCheckpoint = (pages : ℕ → State) (area : Area) (t u : List Entry) (m n : ℕ) → ProperTable t → ProperTable u → Checkpoint pages area t m
    → Checkpoint pages area u n → (t ≡ u) × (m ≡ n)

abbrev pub OneLog : Type 0
OneLog = (rs ss : List Record) → ProperLog rs → ProperLog ss → log_page rs ≡ log_page ss → rs ≡ ss
