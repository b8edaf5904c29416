-- Two of the orders that lose a block, on a chip of 12 erase blocks whose first area holds a settled checkpoint with number 0.
use Rattle.std.specs.Prelude.{ℕ, true, cond, List, Ok, ◌==◌}
use Rattle.device.specs.Cells.{Cell}
use Rattle.device.specs.Cells.Cell.{settled, unsettled}
use Rattle.device.specs.Chips.{State, Pages, data_page_at, Programs, Erases}
use Rattle.device.specs.Chips.State.{blank, held}
use Rattle.layout.specs.declared.areas.Area.TheVariants.{One}
use Rattle.layout.specs.declared.entries.Mark.TheVariants.{Dirty}
use Rattle.layout.specs.Geometry.{entry_page_at, trailer_at, log_page_at}
use Rattle.layout.specs.Laws.{entry_page, trailer_page}
use Rattle.layout.specs.Pages.{log_note, log_data, data_note}
use Rattle.table.specs.Tables.{Table, empty_table, entered}
use Rattle.crash.specs.Crash.{Holds, HoldsEither}
use Rattle.crash.specs.Orders.{put_seven}

-- 32 data pages: the checkpoint of a table, one data page, and nothing else
abbrev pub small_chip : Table → Cell State → Pages
small_chip t first = record {
  on = true;
  size = 12;
  cell = λ q. cond (q == entry_page_at One 0) (settled (entry_page t 0))
      (cond (q == trailer_at 32 One) (settled (trailer_page One 32 0)) (cond (q == data_page_at 0) first (settled blank)));
}

-- the table with disk address 7 on data page 0, dirty
abbrev pub with_seven : Table
with_seven = entered (empty_table 32) 0 Dirty 7

-- Address 7 was written to data page 0 and not synced; then the log page that says so is programmed. The chip held the empty table before; it may now hold
-- neither that nor the new one.
abbrev pub OneSyncExample : Type 0
OneSyncExample = (bytes : List ℕ) → Holds 32 (small_chip (empty_table 32) (unsettled blank (held (data_note 7) bytes))) One 0 (empty_table 32)
    × ((m : Pages) × Programs (small_chip (empty_table 32) (unsettled blank (held (data_note 7) bytes))) (log_page_at 32 One 0) (log_note put_seven) (log_data put_seven) (Ok tt) m
    × (HoldsEither 32 m One 0 (empty_table 32) One 0 with_seven → ⊥))

-- The chip holds address 7 on data page 0, and the page's erase block is erased: the chip no longer holds the table.
abbrev pub EraseFirstExample : Type 0
EraseFirstExample = (bytes : List ℕ) → Holds 32 (small_chip with_seven (settled (held (data_note 7) bytes))) One 0 with_seven
    × ((m : Pages) × Erases (small_chip with_seven (settled (held (data_note 7) bytes))) 8 (Ok tt) m × (Holds 32 m One 0 with_seven → ⊥))
