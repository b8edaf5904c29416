-- What recovery makes of the two trailers.
use Rattle.std.specs.Prelude.{◌≡◌, ℕ, ◌+◌, ◌%◌, ◌⊎◌, Some, None, Ok, Err, Option, Result}
use Rattle.device.specs.declared.faults.Fault.{Fault}
use Rattle.device.specs.declared.faults.Refusal.TheVariants.{NoCheckpoint, Breach}
use Rattle.device.specs.Chips.{State}
use Rattle.layout.specs.declared.areas.Area.{Area}
use Rattle.layout.specs.declared.areas.Area.TheVariants.{One, Two}
use Rattle.layout.specs.Geometry.{trailer_at}
use Rattle.recovery.specs.declared.trailers.ActiveArea.{ActiveArea}
use Rattle.recovery.specs.Recovering.{cache_fault, Counts, Numbered}

-- the number of an area's trailer, or that none counts there
abbrev pub TrailerIs : ℕ → (ℕ → State) → Area → Option ℕ → Type 0
TrailerIs D s area (Some n) = Numbered D area (s (trailer_at D area)) n
TrailerIs D s area None = Counts (s (trailer_at D area)) → ⊥

abbrev pub active_area : Area → ℕ → ActiveArea
active_area area n = record { area = area; number = n }

-- which area is active, by the numbers of the trailers that count
abbrev pub Chosen : ℕ → Option ℕ → Option ℕ → Result ActiveArea Fault → Type 0
Chosen D None None r = r ≡ Err (cache_fault 0 NoCheckpoint)
Chosen D (Some n) None r = r ≡ Ok (active_area One n)
Chosen D None (Some m) r = r ≡ Ok (active_area Two m)
Chosen D (Some n) (Some m) r =
    ((n ≡ m) × (r ≡ Err (cache_fault (trailer_at D Two) Breach))) ⊎ (((n ≡ (m + 1) % 3) × (r ≡ Ok (active_area One n))) ⊎ ((m ≡ (n + 1) % 3) × (r ≡ Ok (active_area Two m))))

-- what a trailer's page says, once it has been looked at
abbrev pub Judged : ℕ → Area → State → Result (Option ℕ) Fault → Type 0
Judged D area page (Ok (Some n)) = Numbered D area page n
Judged D area page (Ok None) = Counts page → ⊥
Judged D area page (Err f) = (f ≡ cache_fault (trailer_at D area) Breach) × (Counts page × ((n : ℕ) → Numbered D area page n → ⊥))
