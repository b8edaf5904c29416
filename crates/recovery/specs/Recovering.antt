-- What recovery finds on a chip, by what its pages read: trailers, entries, log, data pages, in this order, up to the first breach.
use Rattle.std.specs.Prelude.{◌≡◌, ℕ, zero, suc, ◌+◌, ◌*◌, ◌%◌, ◌<◌, true, ◌⊎◌, List, length, take, Some, Ok, Err, Result}
use Rattle.std.specs.List.{AllByRecursion}
use Rattle.device.specs.declared.faults.Fault.{Fault}
use Rattle.device.specs.declared.faults.Layer.TheVariants.{Cache}
use Rattle.device.specs.declared.faults.Refusal.{Refusal}
use Rattle.device.specs.declared.faults.Refusal.TheVariants.{NoCheckpoint, Breach}
use Rattle.device.specs.Chips.{State, data_page_at}
use Rattle.device.specs.Chips.State.{blank, torn, held}
use Rattle.layout.specs.declared.areas.Area.{Area}
use Rattle.layout.specs.declared.areas.Area.TheVariants.{One, Two}
use Rattle.layout.specs.declared.records.Record.{Record}
use Rattle.layout.specs.Geometry.{other_area, entry_pages, log_pages, entry_page_at, trailer_at, log_page_at}
use Rattle.layout.specs.Entries.{ProperEntry}
use Rattle.layout.specs.Pages.{entry_note, entry_data, trailer_note, trailer_data, log_note, log_data, ProperLog, data_note}
use Rattle.table.specs.Tables.{Table, entry_at, marked_at, holds, replayed}

-- what recovery finds: the table, the active area with its number, and the next log page
pub record Found : Type 0 where
  pub table : Table
  pub area : Area
  pub number : ℕ
  pub next : ℕ

abbrev pub cache_fault : ℕ → Refusal → Fault
cache_fault p r = record { refusal = r; layer = Cache; place = p }

-- In what follows D is the number of data pages, and s gives the state of each chip page.

-- Trailers

-- a trailer counts if its page is held with kind 2
abbrev pub Counts : State → Type 0
Counts blank = ⊥
Counts torn = ⊥
Counts (held note bytes) = note.0 ≡ 2

-- the page is the trailer of the area with this number
pub record Numbered (D : ℕ) (area : Area) (page : State) (n : ℕ) : Type 0 where
  pub small : n < 3
  pub is : page ≡ held (trailer_note D n) (trailer_data area D)

-- The area is active under this number: its trailer is in order, and the other area's does not count or is one behind, modulo 3.
pub record Active (D : ℕ) (s : ℕ → State) (area : Area) (n : ℕ) : Type 0 where
  pub own : Numbered D area (s (trailer_at D area)) n
  pub other : (Counts (s (trailer_at D (other_area area))) → ⊥)
      ⊎ ((b : ℕ) × Numbered D (other_area area) (s (trailer_at D (other_area area))) b × (n ≡ (b + 1) % 3))

-- Entries

-- no address is held twice among the first k entries
abbrev pub DistinctBelow : Table → ℕ → Type 0
DistinctBelow t k = (i j a : ℕ) → i < k → j < k → holds a (entry_at t i) ≡ true → holds a (entry_at t j) ≡ true → i ≡ j

-- the first j entry pages of the area are those of the table t
pub record Entered (D : ℕ) (s : ℕ → State) (area : Area) (j : ℕ) (t : Table) : Type 0 where
  pub long : length t ≡ D
  pub pages : (i : ℕ) → i < j → s (entry_page_at area i) ≡ held (entry_note i) (entry_data t i)
  pub proper : AllByRecursion ProperEntry (take (64 * j) t)
  pub distinct : DistinctBelow t (64 * j)

-- Log

-- Log page j turns the table t into u. A blank page and a torn one are passed over; the next log page follows the last one that is not blank.
abbrev pub LogStep : State → ℕ → Table → ℕ → Table → ℕ → Type 0
LogStep blank j t n u m = (u ≡ t) × (m ≡ n)
LogStep torn j t n u m = (u ≡ t) × (m ≡ suc j)
LogStep (held note bytes) j t n u m =
    (records : List Record) × ProperLog records × (note ≡ log_note records) × (bytes ≡ log_data records) × (replayed (Some t) records ≡ Some u) × (m ≡ suc j)

-- the first j log pages turn the table t into u, and m is the next log page after them
abbrev pub Logged : ℕ → (ℕ → State) → Area → ℕ → Table → Table → ℕ → Type 0
Logged D s area zero t u m = (u ≡ t) × (m ≡ 0)
Logged D s area (suc j) t u m = (v : Table) × (n : ℕ) × Logged D s area j t v n × LogStep (s (log_page_at D area j)) j v n u m

-- Data pages

-- a page is held as a data page of the address
abbrev pub IsData : State → ℕ → Type 0
IsData page address = (bytes : List ℕ) × (page ≡ held (data_note address) bytes)

-- each of the first k data pages that the table marks is held with its address
abbrev pub Backed : (ℕ → State) → Table → ℕ → Type 0
Backed s t k = (i : ℕ) → i < k → marked_at t i ≡ true → IsData (s (data_page_at i)) (entry_at t i).address.0

-- Recovery finds this: a checkpoint in an active area, what its log makes of it, and the data pages that back it.
pub record Recovered (D : ℕ) (s : ℕ → State) (f : Found) : Type 0 where
  pub active : Active D s f.area f.number
  pub base : Table
  pub entries : Entered D s f.area (entry_pages D) base
  pub log : Logged D s f.area (log_pages D) base f.table f.next
  pub backed : Backed s f.table D

-- The first breach, in the order of reading.

-- the trailer page counts, and is not in order
abbrev pub Malformed : ℕ → (ℕ → State) → Area → Type 0
Malformed D s area = Counts (s (trailer_at D area)) × ((n : ℕ) → Numbered D area (s (trailer_at D area)) n → ⊥)

pub data Failed (D : ℕ) (s : ℕ → State) (f : Fault) : Type 0 where
  no_trailer : f ≡ cache_fault 0 NoCheckpoint → (Counts (s (trailer_at D One)) → ⊥) → (Counts (s (trailer_at D Two)) → ⊥) → Failed D s f
  first_trailer : f ≡ cache_fault (trailer_at D One) Breach → Malformed D s One → Failed D s f
  second_trailer : f ≡ cache_fault (trailer_at D Two) Breach → (Malformed D s One → ⊥) → Malformed D s Two → Failed D s f
  same_number : f ≡ cache_fault (trailer_at D Two) Breach → (n : ℕ) → Numbered D One (s (trailer_at D One)) n → Numbered D Two (s (trailer_at D Two)) n → Failed D s f
  entry_page : (area : Area) (n j : ℕ) (t : Table) → f ≡ cache_fault (entry_page_at area j) Breach → Active D s area n → j < entry_pages D
      → Entered D s area j t → ((u : Table) → Entered D s area (suc j) u → ⊥) → Failed D s f
  log_page : (area : Area) (n j : ℕ) (t u : Table) (m : ℕ) → f ≡ cache_fault (log_page_at D area j) Breach → Active D s area n → j < log_pages D
      → Entered D s area (entry_pages D) t → Logged D s area j t u m → ((v : Table) (k : ℕ) → LogStep (s (log_page_at D area j)) j u m v k → ⊥) → Failed D s f
  data_page : (area : Area) (n i : ℕ) (t u : Table) (m : ℕ) → f ≡ cache_fault (data_page_at i) Breach → Active D s area n → i < D
      → Entered D s area (entry_pages D) t → Logged D s area (log_pages D) t u m → Backed s u i → (Backed s u (suc i) → ⊥) → Failed D s f

abbrev pub Recovers : ℕ → (ℕ → State) → Result Found Fault → Type 0
Recovers D s (Ok f) = Recovered D s f
Recovers D s (Err f) = Failed D s f
