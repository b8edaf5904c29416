-- What looking at a chip's pages may do to the chip, and what each part of recovery answers.
use Rattle.std.specs.Prelude.{◌≡◌, ℕ, true, false, ◌⊎◌, List, Ok, Err, Result}
use Rattle.device.specs.declared.faults.Fault.{Fault}
use Rattle.device.specs.declared.faults.Refusal.TheVariants.{PowerOff}
use Rattle.device.specs.Cells.{reads, Early}
use Rattle.device.specs.Faults.{chip_fault}
use Rattle.device.specs.Chips.{State, Pages}
use Rattle.device.specs.Chips.State.{blank, torn, held}
use Rattle.recovery.specs.declared.look.Seen.{Seen}
use Rattle.recovery.specs.declared.look.Seen.TheVariants.{Blank, Torn, Held}

-- what each page of a chip reads
abbrev pub shown : Pages → ℕ → State
shown m p = reads (m.cell p)

-- The chip was only looked at: it is as large as it was, and each page is as it was, or settled early as it read.
pub record Quiet (m n : Pages) : Type 0 where
  pub size : n.size ≡ m.size
  pub cells : (q : ℕ) → Early (m.cell q) (n.cell q)

-- what was seen of a page, with its data in the buffer
abbrev pub Saw : State → Seen → List ℕ → Type 0
Saw page Blank after = page ≡ blank
Saw page Torn after = page ≡ torn
Saw page (Held note) after = page ≡ held note after

-- the fault is that of a chip whose power failed, or that was off
abbrev pub Lost : Fault → Pages → Type 0
Lost f n = (n.on ≡ false) × ((p : ℕ) × (f ≡ chip_fault p PowerOff))

-- A look that is served leaves the chip on; one that is not has lost its power.
abbrev pub Looks : {T : Type 0} → (T → Type 0) → Result T Fault → Pages → Type 0
Looks ok (Ok x) n = (n.on ≡ true) × ok x
Looks ok (Err f) n = Lost f n

-- The answer of a part of recovery: served, with the chip on; or a breach, with the chip on; or the chip has no power.
abbrev pub Stage : {T : Type 0} → (T → Type 0) → (Fault → Type 0) → Result T Fault → Pages → Type 0
Stage ok breach (Ok x) n = (n.on ≡ true) × ok x
Stage ok breach (Err f) n = Lost f n ⊎ ((n.on ≡ true) × breach f)
