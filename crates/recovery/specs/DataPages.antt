-- What recovery asks of the data pages that the table marks.
use Rattle.std.specs.Prelude.{◌≡◌, ℕ, suc, ◌<◌, true, length}
use Rattle.device.specs.declared.faults.Fault.{Fault}
use Rattle.device.specs.declared.faults.Refusal.TheVariants.{Breach}
use Rattle.device.specs.Chips.{State, data_page_at}
use Rattle.layout.specs.declared.entries.Entry.{Entry}
use Rattle.table.specs.Tables.{Table, has_mark}
use Rattle.recovery.specs.Recovering.{cache_fault, IsData, Backed}

-- the page of an entry with a mark is held with the entry's address
abbrev pub Backs : State → Entry → Type 0
Backs page e = has_mark e.mark ≡ true → IsData page e.address.0

-- the fault names the first data page that is not held as the table says
abbrev pub Unbacked : (ℕ → State) → Table → Fault → Type 0
Unbacked s t f = (i : ℕ) × (f ≡ cache_fault (data_page_at i) Breach) × (i < length t) × Backed s t i × (Backed s t (suc i) → ⊥)
