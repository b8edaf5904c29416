-- What a disk means, and what each of its calls may do.
use Rattle.std.specs.Prelude.{◌≡◌, ℕ, cond, ◌⊎◌, List, length, Some, None, Option, Result, ◌==◌, nat_lt}
use Rattle.device.specs.declared.faults.Fault.{Fault}
use Rattle.device.specs.declared.faults.Layer.{Layer}
use Rattle.device.specs.declared.faults.Refusal.{Refusal}
use Rattle.device.specs.declared.faults.Refusal.TheVariants.{Unsettled}
use Rattle.device.specs.Cells.{Cell, Meaning, reads, is_unsettled, Cut}
use Rattle.device.specs.Cells.Cell.{settled, unsettled}
use Rattle.device.specs.Faults.{Where, disk_fault, off_fault}
use Rattle.device.specs.Calls.{Call, Served, Halted, in_order}
use Rattle.device.specs.Chips.{synced}

-- A disk's cells are its blocks, which hold bytes, and its size is their number.
abbrev pub Blocks : Type 0
Blocks = Meaning (List ℕ)

-- a power cut leaves an unsettled block as before or as it reads, and no other way
abbrev pub Never : List ℕ → Type 0
Never bytes = ⊥

-- In what follows `layer` is the layer that the disk names for each of its own refusals, `offline` says where its fault arose, while it is off, by the
-- place of the call, and `offline'` says the same after the call.

-- Read

abbrev pub block_read_refusal : (Refusal → Layer) → (ℕ → Where) → Blocks → ℕ → ℕ → Option Fault
block_read_refusal layer offline m b len =
    in_order m.on (off_fault offline b) (len == 512) (nat_lt b m.size) (disk_fault layer b) None

abbrev pub BlockReads : (Refusal → Layer) → (ℕ → Where) → (ℕ → Where) → Blocks → ℕ → List ℕ → Result (Unit {0}) Fault → List ℕ → Blocks → Type 0
BlockReads layer offline offline' m b buf r after n =
    Call (block_read_refusal layer offline m b (length buf)) (off_fault offline' b) m (Served m.cell) (Halted m m.cell)
    (λ _. after ≡ reads (m.cell b)) (after ≡ buf) r n

-- Write

abbrev pub block_write_refusal : (Refusal → Layer) → (ℕ → Where) → Blocks → ℕ → ℕ → Option Fault
block_write_refusal layer offline m b len =
    in_order m.on (off_fault offline b) (len == 512) (nat_lt b m.size) (disk_fault layer b)
    (cond (is_unsettled (m.cell b)) (Some (disk_fault layer b Unsettled)) None)

abbrev pub written : Blocks → ℕ → List ℕ → ℕ → Cell (List ℕ)
written m b bytes q = cond (q == b) (unsettled (reads (m.cell b)) bytes) (m.cell q)

-- a write that power failed in may have settled its block already
abbrev pub WriteHalted : Blocks → ℕ → List ℕ → ℕ → Cell (List ℕ) → Type 0
WriteHalted m b bytes q c = Halted m (written m b bytes) q c ⊎ ((q ≡ b) × (c ≡ settled bytes))

abbrev pub BlockWrites : (Refusal → Layer) → (ℕ → Where) → (ℕ → Where) → Blocks → ℕ → List ℕ → Result (Unit {0}) Fault → Blocks → Type 0
BlockWrites layer offline offline' m b bytes r n =
    Call (block_write_refusal layer offline m b (length bytes)) (off_fault offline' b) m (Served (written m b bytes)) (WriteHalted m b bytes)
    (λ _. Unit {0}) (Unit {0}) r n

-- Sync

abbrev pub block_sync_refusal : (ℕ → Where) → Blocks → Option Fault
block_sync_refusal offline m = cond m.on None (Some (off_fault offline 0))

abbrev pub BlockSyncs : (ℕ → Where) → (ℕ → Where) → Blocks → Result (Unit {0}) Fault → Blocks → Type 0
BlockSyncs offline offline' m r n =
    Call (block_sync_refusal offline m) (off_fault offline' 0) m (Served (synced m)) (Halted m (synced m)) (λ _. Unit {0}) (Unit {0}) r n

-- Power-on: a power cut, then power

abbrev pub BlockPowers : (ℕ → Where) → Blocks → Result (Unit {0}) Fault → Blocks → Type 0
BlockPowers offline' m r n =
    Call None (off_fault offline' 0) m (λ q. Cut Never (m.cell q)) (λ q c. (c ≡ m.cell q) ⊎ Cut Never (m.cell q) c) (λ _. Unit {0}) (Unit {0}) r n
