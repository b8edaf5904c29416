-- What recovery makes of the log pages of an area.
use Rattle.std.specs.Prelude.{◌≡◌, ℕ, ◌<◌, List, Some, Ok, Err, Result}
use Rattle.device.specs.declared.faults.Fault.{Fault}
use Rattle.device.specs.declared.faults.Refusal.TheVariants.{Breach}
use Rattle.device.specs.Chips.{Note, State}
use Rattle.layout.specs.declared.areas.Area.{Area}
use Rattle.layout.specs.declared.records.Record.{Record}
use Rattle.layout.specs.Geometry.{log_pages, log_page_at}
use Rattle.layout.specs.Pages.{log_note, log_data, ProperLog}
use Rattle.table.specs.Tables.{Table, replayed}
use Rattle.recovery.specs.declared.misfit.Misfit.{Misfit}
use Rattle.recovery.specs.Recovering.{cache_fault, LogStep, Logged}

-- note and bytes are those of a log page whose records turn the table t into u
abbrev pub Replays : Note → List ℕ → Table → Table → Type 0
Replays note bytes t u =
    (records : List Record) × ProperLog records × (note ≡ log_note records) × (bytes ≡ log_data records) × (replayed (Some t) records ≡ Some u)

-- what log page j makes of the table t and of the next log page n, once it has been looked at; refused if it is no log page, or does not fit the table
abbrev pub Stepped : State → ℕ → Table → ℕ → Result ℕ Misfit → Table → Type 0
Stepped page j t n (Ok m) u = LogStep page j t n u m
Stepped page j t n (Err x) u = (v : Table) (k : ℕ) → LogStep page j t n v k → ⊥

-- the fault names the first log page that is none, or that does not fit what the pages before it made of the table
abbrev pub Unlogged : ℕ → (ℕ → State) → Area → Table → Fault → Type 0
Unlogged D s area t f =
    (j : ℕ) × (u : Table) × (m : ℕ) × (f ≡ cache_fault (log_page_at D area j) Breach) × (j < log_pages D) × Logged D s area j t u m
    × ((v : Table) (k : ℕ) → LogStep (s (log_page_at D area j)) j u m v k → ⊥)
