-- An image disk: its meaning, how it names its faults, and what making it answers.
use Rattle.std.specs.Prelude.{◌≡◌, ℕ, List, Ok, Err, Result}
use Rattle.device.specs.declared.faults.Fault.{Fault}
use Rattle.device.specs.declared.faults.Layer.{Layer}
use Rattle.device.specs.declared.faults.Layer.TheVariants.{Disk}
use Rattle.device.specs.declared.faults.Refusal.{Refusal}
use Rattle.device.specs.declared.faults.Refusal.TheVariants.{BadSize, Breach}
use Rattle.device.specs.Faults.{Where, disk_fault}
use Rattle.device.specs.Disks.{Blocks}
use Rattle.disk_frames.specs.Frames.{image_blocks, blocks_in, Whole, Listed, FirstBad}
use Rattle.image.specs.declared.unfit.Unfit.{Unfit}
use Rattle.image.specs.declared.image_disk.ImageDisk.{ImageDisk}
use Rattle.image.specs.Exact.{View, supply, fresh, UnfitFor}

abbrev pub disk_view : ImageDisk → View
disk_view d = record { power = supply d.power; bytes = d.image.now }

abbrev pub disk_means : View → Blocks
disk_means v = image_blocks v.power.on v.bytes

-- every fault is of the disk's own layer, at the place that was given, while it is off too
abbrev pub disk_layer : Refusal → Layer
disk_layer r = Disk

abbrev pub disk_offline : ℕ → Where
disk_offline b = record { layer = Disk; place = b }

abbrev pub disk_refuses : ℕ → Refusal → Fault
disk_refuses b r = disk_fault disk_layer b r

abbrev pub DiskUnfit : List ℕ → List ℕ → Result (Unit {0}) Fault → Type 0
DiskUnfit xs fuses r = UnfitFor (Whole xs) (Listed xs (blocks_in xs)) (disk_refuses 0 BadSize) (λ b. disk_refuses b Breach) (FirstBad xs) fuses r

-- A disk that is made is fresh over the image; a refusal gives the image back untouched.
abbrev pub DiskMade : List ℕ → List ℕ → Result ImageDisk Unfit → Type 0
DiskMade xs fuses (Ok d) = DiskUnfit xs fuses (Ok tt) × (disk_view d ≡ fresh xs fuses)
DiskMade xs fuses (Err u) = DiskUnfit xs fuses (Err u.fault) × (u.image.now ≡ xs)
