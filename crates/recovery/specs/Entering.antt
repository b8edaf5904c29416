-- The entry pages of a checkpoint, read one after another.
use Rattle.std.specs.Prelude.{◌≡◌, ℕ, suc, ◌+◌, ◌*◌, ◌<◌, length, take, Ok, Err, Result}
use Rattle.std.specs.List.{AllByRecursion}
use Rattle.device.specs.declared.faults.Fault.{Fault}
use Rattle.device.specs.declared.faults.Refusal.TheVariants.{Breach}
use Rattle.device.specs.Chips.{State}
use Rattle.device.specs.Chips.State.{held}
use Rattle.layout.specs.declared.areas.Area.{Area}
use Rattle.layout.specs.Entries.{ProperEntry}
use Rattle.layout.specs.Geometry.{entry_pages, entry_page_at}
use Rattle.layout.specs.Pages.{entry_part, entry_note, entry_data}
use Rattle.table.specs.Tables.{Table}
use Rattle.recovery.specs.declared.misfit.Misfit.{Misfit}
use Rattle.recovery.specs.Recovering.{cache_fault, DistinctBelow, Entered}

-- The page is entry page j of the table u, which is the table t up to there and holds no address twice so far; or it is that of no such table.
abbrev pub Taken : State → ℕ → Table → Result (Unit {0}) Misfit → Table → Type 0
Taken page j t (Ok x) u =
    (page ≡ held (entry_note j) (entry_data u j)) × AllByRecursion ProperEntry (entry_part u j) × (take (64 * j) u ≡ take (64 * j) t) × (length u ≡ length t)
    × DistinctBelow u (64 * j + 64)
Taken page j t (Err x) u =
    (v : Table) → length v ≡ length t → take (64 * j) v ≡ take (64 * j) t → page ≡ held (entry_note j) (entry_data v j) → AllByRecursion ProperEntry (entry_part v j)
    → DistinctBelow v (64 * j + 64) → ⊥

-- an entry page of the area does not fit those before it: the first such
abbrev pub EntriesFail : ℕ → (ℕ → State) → Area → Fault → Type 0
EntriesFail D s area f =
    (j : ℕ) × (t : Table) × (f ≡ cache_fault (entry_page_at area j) Breach) × (j < entry_pages D) × Entered D s area j t × ((u : Table) → Entered D s area (suc j) u → ⊥)
