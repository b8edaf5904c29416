-- What recovery finds is one thing; and two examples of how the numbers of the trailers decide.
use Rattle.std.specs.Prelude.{◌≡◌, ℕ, ◌≤◌, Err, Result}
use Rattle.device.specs.declared.faults.Fault.{Fault}
use Rattle.device.specs.declared.faults.Refusal.TheVariants.{Breach}
use Rattle.device.specs.Chips.{State}
use Rattle.layout.specs.declared.areas.Area.TheVariants.{One, Two}
use Rattle.layout.specs.Geometry.{trailer_at}
use Rattle.recovery.specs.Recovering.{Found, Numbered, Active, Recovers, cache_fault}

-- The same pages allow one answer only, be it a table or the first breach.
abbrev pub OneAnswer : Type 0
OneAnswer = (D : ℕ) → D ≤ 448 → (s : ℕ → State) (r r' : Result Found Fault) → Recovers D s r → Recovers D s r' → r ≡ r'

-- number 0 follows number 2: with 2 in area one and 0 in area two, area two is active
abbrev pub ZeroFollowsTwo : Type 0
ZeroFollowsTwo = (D : ℕ) (s : ℕ → State) → Numbered D One (s (trailer_at D One)) 2 → Numbered D Two (s (trailer_at D Two)) 0 → Active D s Two 0

-- with number 1 in both areas, recovery is refused at the second trailer
abbrev pub SameNumberRefused : Type 0
SameNumberRefused = (D : ℕ) (s : ℕ → State) → Numbered D One (s (trailer_at D One)) 1 → Numbered D Two (s (trailer_at D Two)) 1
    → Recovers D s (Err (cache_fault (trailer_at D Two) Breach))
