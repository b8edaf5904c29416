-- What any call of a device may do, between its meaning before and its meaning after.
use Rattle.std.specs.Prelude.{◌≡◌, ℕ, Bool, true, false, cond, ◌⊎◌, Some, None, Ok, Err, Option, Result}
use Rattle.device.specs.declared.faults.Fault.{Fault}
use Rattle.device.specs.declared.faults.Refusal.{Refusal}
use Rattle.device.specs.declared.faults.Refusal.TheVariants.{BadSize, OutOfRange}
use Rattle.device.specs.Cells.{Cell, Meaning, Early, Becomes}

-- The conditions in the order in which they are looked for: power, the buffer's size, the place, then what is there.
abbrev pub in_order : Bool → Fault → Bool → Bool → (Refusal → Fault) → Option Fault → Option Fault
in_order on off whole inside named there =
    cond on (cond whole (cond inside there (Some (named OutOfRange))) (Some (named BadSize))) (Some off)

-- A call that its conditions refuse answers that refusal, and nothing changes. Any other is served, and then `ok` holds of the answer and `served` of
-- each cell; or power fails in it, and then it answers `lost`, the device is off, and `halted` holds of each cell. `same` holds of every refused call.
abbrev pub Call : {S T : Type 0} → Option Fault → Fault → Meaning S → (ℕ → Cell S → Type 0) → (ℕ → Cell S → Type 0) → (T → Type 0) → Type 0 → Result T Fault → Meaning S → Type 0
Call refusal lost m served halted ok same (Ok x) n = (refusal ≡ None) × ok x × Becomes true m served n
Call refusal lost m served halted ok same (Err f) n =
    same × (((refusal ≡ Some f) × (n ≡ m)) ⊎ ((refusal ≡ None) × (f ≡ lost) × Becomes false m halted n))

-- served: each cell is as wanted, or settled early as that reads
abbrev pub Served : {S : Type 0} → (ℕ → Cell S) → ℕ → Cell S → Type 0
Served want i c = Early (want i) c

-- power failed: each cell is as before, or as wanted
abbrev pub Halted : {S : Type 0} → Meaning S → (ℕ → Cell S) → ℕ → Cell S → Type 0
Halted m want i c = (c ≡ m.cell i) ⊎ (c ≡ want i)

-- the cells as a call wanted them, with nothing settled early: as they were, if its conditions refuse it
abbrev pub wanted : {S : Type 0} → Option Fault → Meaning S → (ℕ → Cell S) → ℕ → Cell S
wanted None m want = want
wanted (Some f) m want = m.cell
