-- The laws of chips and disks that the layers above cite, over the relations of their calls.
use Rattle.std.specs.Prelude.{◌≡◌, ℕ, List, length, Ok, Result, ◌≢◌}
use Rattle.device.specs.declared.faults.Fault.{Fault}
use Rattle.device.specs.declared.faults.Layer.{Layer}
use Rattle.device.specs.declared.faults.Refusal.{Refusal}
use Rattle.device.specs.Cells.{Meaning, reads, Leaves}
use Rattle.device.specs.Cells.Cell.{settled}
use Rattle.device.specs.Faults.{Where}
use Rattle.device.specs.Calls.{wanted}
use Rattle.device.specs.Chips.{Note, State, Pages, Tears, block_of, Reads, Programs, program_refusal, programmed, Erases, erase_refusal, erased_block, Syncs, Powers}
use Rattle.device.specs.Chips.State.{blank, held}
use Rattle.device.specs.Disks.{Blocks, Never, BlockReads, BlockWrites, block_write_refusal, written, BlockSyncs, BlockPowers}

-- every cell reads as it did
abbrev pub ReadsSame : {S : Type 0} → Meaning S → Meaning S → Type 0
ReadsSame m n = (q : ℕ) → reads (n.cell q) ≡ reads (m.cell q)

-- every cell is settled as it read before
abbrev pub SettlesAll : {S : Type 0} → Meaning S → Meaning S → Type 0
SettlesAll m n = (q : ℕ) → n.cell q ≡ settled (reads (m.cell q))

-- What a page reads after a call. A read changes nothing that can be read, whatever it answers, and neither does a sync.
pub record ChipReads : Type 0 where
  pub after_read : (m n : Pages) (p : ℕ) (buf after : List ℕ) (r : Result Note Fault) → Reads m p buf r after n → ReadsSame m n
  pub after_program : (m n : Pages) (p : ℕ) (note : Note) (bytes : List ℕ) → Programs m p note bytes (Ok tt) n
      → (reads (n.cell p) ≡ held note bytes) × ((q : ℕ) → (q ≢ p) → reads (n.cell q) ≡ reads (m.cell q))
  pub after_erase : (m n : Pages) (b : ℕ) → Erases m b (Ok tt) n
      → ((q : ℕ) → block_of q ≡ b → reads (n.cell q) ≡ blank) × ((q : ℕ) → (block_of q ≢ b) → reads (n.cell q) ≡ reads (m.cell q))
  pub after_sync : (m n : Pages) (r : Result (Unit {0}) Fault) → Syncs m r n → ReadsSame m n

pub record DiskReads : Type 0 where
  pub after_read : (layer : Refusal → Layer) (off off' : ℕ → Where) (m n : Blocks) (b : ℕ) (buf after : List ℕ) (r : Result (Unit {0}) Fault)
      → BlockReads layer off off' m b buf r after n → ReadsSame m n
  pub after_write : (layer : Refusal → Layer) (off off' : ℕ → Where) (m n : Blocks) (b : ℕ) (bytes : List ℕ) → BlockWrites layer off off' m b bytes (Ok tt) n
      → (reads (n.cell b) ≡ bytes) × ((q : ℕ) → (q ≢ b) → reads (n.cell q) ≡ reads (m.cell q))
  pub after_sync : (off off' : ℕ → Where) (m n : Blocks) (r : Result (Unit {0}) Fault) → BlockSyncs off off' m r n → ReadsSame m n

-- A served sync leaves every cell settled as it read.
pub record SyncsSettle : Type 0 where
  pub chip : (m n : Pages) → Syncs m (Ok tt) n → SettlesAll m n
  pub disk : (off off' : ℕ → Where) (m n : Blocks) → BlockSyncs off off' m (Ok tt) n → SettlesAll m n

-- Whatever a call answered, each way in which a power cut may then leave the chip is a way in which a cut may leave the chip as the call wanted it, with
-- nothing settled: for read, sync and power-on, as it was before.
pub record ChipCuts : Type 0 where
  pub at_read : (m n : Pages) (p : ℕ) (buf after : List ℕ) (r : Result Note Fault) (s : ℕ → State) → Reads m p buf r after n → Leaves Tears n.cell s
      → Leaves Tears m.cell s
  pub at_program : (m n : Pages) (p : ℕ) (note : Note) (bytes : List ℕ) (r : Result (Unit {0}) Fault) (s : ℕ → State) → Programs m p note bytes r n
      → Leaves Tears n.cell s → Leaves Tears (wanted (program_refusal m p (length bytes)) m (programmed m p note bytes)) s
  pub at_erase : (m n : Pages) (b : ℕ) (r : Result (Unit {0}) Fault) (s : ℕ → State) → Erases m b r n → Leaves Tears n.cell s
      → Leaves Tears (wanted (erase_refusal m b) m (erased_block m b)) s
  pub at_sync : (m n : Pages) (r : Result (Unit {0}) Fault) (s : ℕ → State) → Syncs m r n → Leaves Tears n.cell s → Leaves Tears m.cell s
  pub at_power_on : (m n : Pages) (r : Result (Unit {0}) Fault) (s : ℕ → State) → Powers m r n → Leaves Tears n.cell s → Leaves Tears m.cell s

-- The same of a disk.
pub record DiskCuts : Type 0 where
  pub at_read : (layer : Refusal → Layer) (off off' : ℕ → Where) (m n : Blocks) (b : ℕ) (buf after : List ℕ) (r : Result (Unit {0}) Fault)
      (s : ℕ → List ℕ) → BlockReads layer off off' m b buf r after n → Leaves Never n.cell s → Leaves Never m.cell s
  pub at_write : (layer : Refusal → Layer) (off off' : ℕ → Where) (m n : Blocks) (b : ℕ) (bytes : List ℕ) (r : Result (Unit {0}) Fault) (s : ℕ → List ℕ)
      → BlockWrites layer off off' m b bytes r n → Leaves Never n.cell s
      → Leaves Never (wanted (block_write_refusal layer off m b (length bytes)) m (written m b bytes)) s
  pub at_sync : (off off' : ℕ → Where) (m n : Blocks) (r : Result (Unit {0}) Fault) (s : ℕ → List ℕ) → BlockSyncs off off' m r n
      → Leaves Never n.cell s → Leaves Never m.cell s
  pub at_power_on : (off' : ℕ → Where) (m n : Blocks) (r : Result (Unit {0}) Fault) (s : ℕ → List ℕ) → BlockPowers off' m r n
      → Leaves Never n.cell s → Leaves Never m.cell s
