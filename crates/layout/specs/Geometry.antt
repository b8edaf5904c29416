-- Where the mapping table lies on a chip: two areas of 32 pages, each with a checkpoint and the log that follows it.
use Rattle.std.specs.Prelude.{◌≡◌, ℕ, ◌+◌, ◌-◌, ◌*◌, ◌/◌, cond, ◌&&◌, Some, None, Option, nat_le}
use Rattle.device.specs.declared.faults.Fault.{Fault}
use Rattle.device.specs.declared.faults.Layer.TheVariants.{Cache}
use Rattle.device.specs.declared.faults.Refusal.TheVariants.{BadGeometry}
use Rattle.layout.specs.declared.areas.Area.{Area}
use Rattle.layout.specs.declared.areas.Area.TheVariants.{One, Two}

-- a cache serves a chip of 12 to 64 erase blocks, and refuses any other before it touches the chip
abbrev pub geometry_refusal : ℕ → Option Fault
geometry_refusal blocks = cond (nat_le 12 blocks && nat_le blocks 64) None (Some (record { refusal = BadGeometry; layer = Cache; place = 0 }))

-- the pages for data, of a chip with so many erase blocks: those of all blocks behind the two areas
abbrev pub data_pages : ℕ → ℕ
data_pages blocks = 8 * (blocks - 8)

-- the pages that hold a table's entries, 64 to a page, for so many data pages
abbrev pub entry_pages : ℕ → ℕ
entry_pages pages = (pages + 63) / 64

-- the log pages of an area: what the entry pages and the trailer leave of it
abbrev pub log_pages : ℕ → ℕ
log_pages pages = 32 - (entry_pages pages + 1)

abbrev pub first_page : Area → ℕ
first_page One = 0
first_page Two = 32

abbrev pub other_area : Area → Area
other_area One = Two
other_area Two = One

-- the chip pages of an area, for so many data pages: the entry pages, the trailer, the log pages
abbrev pub entry_page_at : Area → ℕ → ℕ
entry_page_at area j = first_page area + j

abbrev pub trailer_at : ℕ → Area → ℕ
trailer_at pages area = first_page area + entry_pages pages

abbrev pub log_page_at : ℕ → Area → ℕ → ℕ
log_page_at pages area j = first_page area + entry_pages pages + 1 + j

-- the data pages, entry pages and log pages of a chip with so many erase blocks
pub record Sizes (blocks for_data for_entries for_log : ℕ) : Type 0 where
  pub data_are : data_pages blocks ≡ for_data
  pub entries_are : entry_pages (data_pages blocks) ≡ for_entries
  pub log_are : log_pages (data_pages blocks) ≡ for_log
