-- The numbers of refusals and layers, and how chips and disks name their faults.
use Rattle.std.specs.Prelude.{ℕ}
use Rattle.device.specs.declared.faults.Fault.{Fault}
use Rattle.device.specs.declared.faults.Layer.{Layer}
use Rattle.device.specs.declared.faults.Layer.TheVariants.{Chip, Cache, Disk, Tier}
use Rattle.device.specs.declared.faults.Refusal.{Refusal}
use Rattle.device.specs.declared.faults.Refusal.TheVariants.{PowerOff, BadSize, OutOfRange, Unsettled, NotBlank, Torn, Blank, NotHeld, Full, NoCheckpoint, Breach, BadGeometry}

abbrev pub refusal_number : Refusal → ℕ
refusal_number PowerOff = 1
refusal_number BadSize = 2
refusal_number OutOfRange = 3
refusal_number Unsettled = 4
refusal_number NotBlank = 5
refusal_number Torn = 6
refusal_number Blank = 7
refusal_number NotHeld = 8
refusal_number Full = 9
refusal_number NoCheckpoint = 10
refusal_number Breach = 11
refusal_number BadGeometry = 12

abbrev pub layer_number : Layer → ℕ
layer_number Chip = 1
layer_number Cache = 2
layer_number Disk = 3
layer_number Tier = 4

-- a chip's faults are of its own layer, at the place that was given
abbrev pub chip_fault : ℕ → Refusal → Fault
chip_fault p r = record { refusal = r; layer = Chip; place = p }

-- where a fault arose
pub record Where : Type 0 where
  pub layer : Layer
  pub place : ℕ

-- a disk's own refusals are at the place that was given, of the layer that the disk names for each
abbrev pub disk_fault : (Refusal → Layer) → ℕ → Refusal → Fault
disk_fault layer p r = record { refusal = r; layer = layer r; place = p }

-- while a disk is off, it says where the power failed
abbrev pub off_fault : (ℕ → Where) → ℕ → Fault
off_fault offline p = record { refusal = PowerOff; layer = (offline p).layer; place = (offline p).place }
