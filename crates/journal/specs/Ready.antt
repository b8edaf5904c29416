-- What the journal and the chip keep true of each other between calls, while the chip is on.
use Rattle.std.specs.Prelude.{◌≡◌, ℕ, ◌<◌, ◌≤◌, true, false, length, Some}
use Rattle.std.specs.List.{AllByRecursion}
use Rattle.device.specs.Cells.{is_unsettled}
use Rattle.device.specs.Chips.{Pages, data_page_at}
use Rattle.device.specs.Chips.State.{blank}
use Rattle.layout.specs.Geometry.{data_pages, log_pages}
use Rattle.layout.specs.Records.{ProperRecord}
use Rattle.table.specs.Tables.{Table, marked_at, replayed, ProperTable}
use Rattle.recovery.specs.Looking.{shown}
use Rattle.recovery.specs.Recovering.{Backed}
use Rattle.crash.specs.Crash.{Holds, BlankFrom}
use Rattle.journal.specs.Notes.{Noted, noted, pages_of}
use Rattle.journal.specs.declared.memory.Journal.{Journal}

-- The chip holds the table t, which was committed last; the staged records turn it into the table in memory. D is the number of data pages.
pub record Ready (D : ℕ) (m : Pages) (v : Noted) (t : Table) : Type 0 where
  pub power : m.on ≡ true
  pub enough : 12 ≤ m.size
  pub few : m.size ≤ 64
  pub large : D ≡ data_pages m.size
  pub holds : Holds D m v.area v.number t
  pub small : v.number < 3
  pub makes : replayed (Some t) v.staged ≡ Some v.table
  pub room : length v.staged ≤ 64
  pub records : AllByRecursion ProperRecord v.staged
  pub long : length v.table ≡ D
  pub proper : ProperTable v.table
  pub ends : v.next ≤ log_pages D
  -- the rest of the log is blank
  pub ahead : BlankFrom D m v.area v.next
  -- the pages of both areas are settled
  pub areas : (p : ℕ) → p < 64 → is_unsettled (m.cell p) ≡ false
  -- the data pages that the committed table marks are settled
  pub firm : (i : ℕ) → i < D → marked_at t i ≡ true → is_unsettled (m.cell (data_page_at i)) ≡ false
  -- those that the table in memory marks are held with their address
  pub backed : Backed (shown m) v.table D
  -- a blank data page is settled
  pub blanks : (i : ℕ) → i < D → shown m (data_page_at i) ≡ blank → is_unsettled (m.cell (data_page_at i)) ≡ false

-- the chip holds a table that was committed, and the journal what has become of it since
abbrev pub IsReady : Pages → Journal → Type 0
IsReady m j = (t : Table) × Ready (pages_of j) m (noted j) t
