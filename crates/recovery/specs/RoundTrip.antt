-- Reading back what was written: a checkpoint in an area, and a log behind it with torn and blank pages anywhere between its pages.
use Rattle.std.specs.Prelude.{◌≡◌, ℕ, zero, suc, ◌<◌, ◌≤◌, List, [], ◌++◌, length, Some, Ok, Result}
use Rattle.device.specs.declared.faults.Fault.{Fault}
use Rattle.device.specs.Chips.{State}
use Rattle.device.specs.Chips.State.{blank, torn}
use Rattle.layout.specs.declared.areas.Area.{Area}
use Rattle.layout.specs.declared.records.Record.{Record}
use Rattle.layout.specs.Geometry.{other_area, entry_pages, log_pages, entry_page_at, trailer_at, log_page_at}
use Rattle.layout.specs.Laws.{entry_page, trailer_page, log_page}
use Rattle.layout.specs.Pages.{ProperLog}
use Rattle.table.specs.Tables.{Table, replayed, ProperTable}
use Rattle.recovery.specs.Recovering.{Found, Counts, Backed, Recovers}

-- a page of the log: never written, lost in a power cut, or written with records
pub data LogPage : Type 0 where
  unwritten : LogPage
  lost : LogPage
  written : List Record → LogPage

abbrev pub page_state : LogPage → State
page_state unwritten = blank
page_state lost = torn
page_state (written records) = log_page records

abbrev pub page_records : LogPage → List Record
page_records unwritten = []
page_records lost = []
page_records (written records) = records

abbrev pub ProperPage : LogPage → Type 0
ProperPage unwritten = Unit {0}
ProperPage lost = Unit {0}
ProperPage (written records) = ProperLog records

-- the records of the first j pages, in order
abbrev pub records_upto : (ℕ → LogPage) → ℕ → List Record
records_upto log zero = []
records_upto log (suc j) = records_upto log j ++ page_records (log j)

-- the page behind the last one that is not blank
abbrev pub next_after : LogPage → ℕ → ℕ → ℕ
next_after unwritten j n = n
next_after lost j n = suc j
next_after (written records) j n = suc j

abbrev pub next_upto : (ℕ → LogPage) → ℕ → ℕ
next_upto log zero = 0
next_upto log (suc j) = next_after (log j) j (next_upto log j)

-- the chip's pages are the checkpoint of the table t in the area under the number n, and this log; no trailer counts in the other area
pub record Written (D : ℕ) (s : ℕ → State) (area : Area) (n : ℕ) (t : Table) (log : ℕ → LogPage) : Type 0 where
  pub small : n < 3
  pub long : length t ≡ D
  pub proper : ProperTable t
  pub entries : (j : ℕ) → j < entry_pages D → s (entry_page_at area j) ≡ entry_page t j
  pub trailer : s (trailer_at D area) ≡ trailer_page area D n
  pub other : Counts (s (trailer_at D (other_area area))) → ⊥
  pub pages : (j : ℕ) → j < log_pages D → s (log_page_at D area j) ≡ page_state (log j)
  pub fit : (j : ℕ) → j < log_pages D → ProperPage (log j)

-- Whatever recovery answers, it is the table that the log's records, all in order, make of the checkpoint's table.
abbrev pub ReadsBack : Type 0
ReadsBack = (D : ℕ) → D ≤ 448 → (s : ℕ → State) (area : Area) (n : ℕ) (t : Table) (log : ℕ → LogPage) (u : Table) (r : Result Found Fault) → Written D s area n t log
    → replayed (Some t) (records_upto log (log_pages D)) ≡ Some u → Backed s u D → Recovers D s r
    → r ≡ Ok (record { table = u; area = area; number = n; next = next_upto log (log_pages D) })
