-- An image chip: its meaning, and what making it answers.
use Rattle.std.specs.Prelude.{◌≡◌, ℕ, ◌/◌, List, length, Ok, Err, Result}
use Rattle.device.specs.declared.faults.Fault.{Fault}
use Rattle.device.specs.declared.faults.Refusal.TheVariants.{BadSize, Breach}
use Rattle.device.specs.Faults.{chip_fault}
use Rattle.device.specs.Chips.{Pages}
use Rattle.chip_frames.specs.Frames.{image_pages, Whole, Listed, FirstBad}
use Rattle.image.specs.declared.unfit.Unfit.{Unfit}
use Rattle.image.specs.declared.image_chip.ImageChip.{ImageChip}
use Rattle.image.specs.Exact.{View, supply, fresh, UnfitFor}

abbrev pub chip_view : ImageChip → View
chip_view c = record { power = supply c.power; bytes = c.image.now }

abbrev pub chip_means : View → Pages
chip_means v = image_pages v.power.on v.bytes

abbrev pub ChipUnfit : List ℕ → List ℕ → Result (Unit {0}) Fault → Type 0
ChipUnfit xs fuses r =
    UnfitFor (Whole xs) (Listed xs (length xs / 520)) (chip_fault 0 BadSize) (λ p. chip_fault p Breach) (FirstBad xs) fuses r

-- A chip that is made is fresh over the image; a refusal gives the image back untouched.
abbrev pub ChipMade : List ℕ → List ℕ → Result ImageChip Unfit → Type 0
ChipMade xs fuses (Ok c) = ChipUnfit xs fuses (Ok tt) × (chip_view c ≡ fresh xs fuses)
ChipMade xs fuses (Err u) = ChipUnfit xs fuses (Err u.fault) × (u.image.now ≡ xs)
