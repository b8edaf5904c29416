-- The pages of the mapping table, each a note and 512 bytes: entry pages and trailer of a checkpoint, log pages, and the notes of data pages.
use Rattle.std.specs.Prelude.{◌≡◌, ℕ, ◌+◌, ◌-◌, ◌*◌, ◌<◌, ◌≤◌, List, [], ◌∷◌, ◌++◌, length, take, drop, Some, None, Option, Ok, Err, Result, ◌≢◌}
use Rattle.std.specs.List.{flat_map, AllByRecursion}
use Rattle.arrayvec.specs.ArrayVec.{ArrayVec}
use Rattle.device.specs.Chips.{Note}
use Rattle.layout.specs.declared.areas.Area.{Area}
use Rattle.layout.specs.declared.entries.Entry.{Entry}
use Rattle.layout.specs.declared.notes.Malformed.{Malformed}
use Rattle.layout.specs.declared.records.Record.{Record}
use Rattle.layout.specs.declared.trailers.Trailer.{Trailer}
use Rattle.layout.specs.Bytes.{two_bytes, zeros}
use Rattle.layout.specs.Geometry.{first_page, entry_pages}
use Rattle.layout.specs.Records.{record_bytes, ProperRecord}
use Rattle.layout.specs.Entries.{entry_bytes, ProperEntry}

-- a page of values with eight bytes each, and zeros after them
unfoldable pub cells_page : {X : Type 0} → (X → List ℕ) → List X → List ℕ
cells_page bytes xs = flat_map bytes xs ++ zeros (512 - 8 * length xs)

-- Entry pages

-- the entries that stand on entry page j: 64 of them, or what is left of the table
abbrev pub entry_part : List Entry → ℕ → List Entry
entry_part table j = take 64 (drop (64 * j) table)

abbrev pub entry_note : ℕ → Note
entry_note j = (1, j, 0)

abbrev pub entry_data : List Entry → ℕ → List ℕ
entry_data table j = cells_page entry_bytes (entry_part table j)

-- Reading entry page j into a table: the page is that of the table as it now is, and the other entries stay; or it is no entry page j of a proper table
-- of this size, and the table stays.
abbrev pub EntriesRead : Note → List ℕ → ℕ → List Entry → Result (Unit {0}) Malformed → List Entry → Type 0
EntriesRead note page j table (Ok _) after =
    (note ≡ entry_note j) × (page ≡ entry_data after j) × AllByRecursion ProperEntry (entry_part after j) × (take (64 * j) after ≡ take (64 * j) table)
    × (drop (64 * j + 64) after ≡ drop (64 * j + 64) table)
EntriesRead note page j table (Err _) after =
    (after ≡ table) × ((t : List Entry) → length t ≡ length table → AllByRecursion ProperEntry (entry_part t j) → note ≡ entry_note j → page ≢ entry_data t j)

-- Trailers: four letters, the area's first chip page, the number of data pages, zeros

abbrev pub trailer_bytes : Trailer → List ℕ
trailer_bytes t = 70 ∷ 84 ∷ 67 ∷ 80 ∷ two_bytes (first_page t.area) (two_bytes t.pages [])

abbrev pub ProperTrailer : Trailer → Type 0
ProperTrailer t = t.pages < 65536

abbrev pub trailer_note : ℕ → ℕ → Note
trailer_note pages number = (2, entry_pages pages, number)

abbrev pub trailer_data : Area → ℕ → List ℕ
trailer_data area pages = cells_page trailer_bytes (record { area = area; pages = pages } ∷ [])

-- Reading a trailer answers its number, 0 to 2, or that the page is no trailer of this area and so many data pages.
abbrev pub TrailerRead : Area → ℕ → Note → List ℕ → Option ℕ → Type 0
TrailerRead area pages note page (Some n) = (n < 3) × (note ≡ trailer_note pages n) × (page ≡ trailer_data area pages)
TrailerRead area pages note page None = (n : ℕ) → n < 3 → note ≡ trailer_note pages n → page ≢ trailer_data area pages

-- Log pages

abbrev pub log_note : List Record → Note
log_note records = (3, length records, 0)

abbrev pub log_data : List Record → List ℕ
log_data records = cells_page record_bytes records

pub record ProperLog (records : List Record) : Type 0 where
  pub some : 0 < length records
  pub few : length records ≤ 64
  pub each : AllByRecursion ProperRecord records

-- Reading a log page answers its records, or that the page is no log page.
abbrev pub LogRead : Note → List ℕ → Option (ArrayVec Record) → Type 0
LogRead note page (Some records) = ProperLog records.items × (note ≡ log_note records.items) × (page ≡ log_data records.items)
LogRead note page None = (records : List Record) → ProperLog records → note ≡ log_note records → page ≢ log_data records

-- Data pages

abbrev pub data_note : ℕ → Note
data_note address = (4, 0, address)
