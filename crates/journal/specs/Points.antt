-- What a power cut may leave: the points at which recovery can come out.
use Rattle.std.specs.Prelude.{◌≡◌, ℕ, ◌<◌, true, ◌⊎◌}
use Rattle.device.specs.Cells.{Leaves}
use Rattle.device.specs.Chips.{State, Pages, Tears, data_page_at}
use Rattle.layout.specs.declared.areas.Area.{Area}
use Rattle.table.specs.Tables.{Table, marked_at}
use Rattle.crash.specs.Crash.{Finds}

-- a table, and what the data pages that it marks read
pub record Point : Type 0 where
  pub table : Table
  pub pages : ℕ → State

abbrev pub point : Table → (ℕ → State) → Point
point t pages = record { table = t; pages = pages }

-- the data pages that the point's table marks read as the point says
abbrev pub ReadsAs : ℕ → (ℕ → State) → Point → Type 0
ReadsAs D s x = (i : ℕ) → i < D → marked_at x.table i ≡ true → s (data_page_at i) ≡ x.pages (data_page_at i)

-- Whichever way a power cut leaves the chip, recovery finds the table of one of these points, and the pages that it marks read as that point says.
abbrev pub Left : ℕ → Pages → (Point → Type 0) → Type 0
Left D m Among = (s : ℕ → State) → Leaves Tears m.cell s → (x : Point) × Among x × ReadsAs D s x × ((area : Area) × (n : ℕ) × Finds D s area n x.table)

-- one of two points
abbrev pub Either : Point → Point → Point → Type 0
Either a b x = (x ≡ a) ⊎ (x ≡ b)
