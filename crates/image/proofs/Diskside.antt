-- What an image disk does exactly is what a disk may do.
use Rattle.std.proofs.Common.{◌≡◌, ℕ, true, false, cond, eqb, ltb, List, length, Some, None, Ok, Result, refl, ap, inl}
use Rattle.std.proofs.lemmas.Bool.{ltb-true}
use Rattle.device.specs.declared.faults.Fault.{Fault}
use Rattle.device.specs.declared.faults.Refusal.TheVariants.{PowerOff, Unsettled}
use Rattle.device.specs.Cells.{is_unsettled, Cut}
use Rattle.device.specs.Calls.{Served, Halted}
use Rattle.device.specs.Chips.{synced}
use Rattle.device.specs.Disks.{Never, BlockWrites, block_write_refusal, written, WriteHalted, BlockSyncs, block_sync_refusal, BlockPowers}
use Rattle.device.proofs.Settling.{in_order_met}
use Rattle.device.proofs.Diskwise.{write_settled}
use Rattle.disk_frames.specs.Frames.{blocks_in, block_in, written_frame, settled_frame, cut_frame, ChangesOne, ChangesAll}
use Rattle.disk_frames.proofs.Blockwise.{written_blocks, blocks_settled, cut_blocks}
use Rattle.image.specs.Exact.{View, Counted, Switched}
use Rattle.image.specs.OfDisk.{disk_means, disk_layer, disk_offline, disk_refuses}
use Rattle.image.proofs.Exactly.{as_many, on_if, counted_call, switched_call}
use Rattle.device.specs.Cells.{reads}
use Rattle.device.specs.Disks.{BlockReads, block_read_refusal}
use Rattle.image.specs.Exact.{Looked}
use Rattle.image.proofs.Exactly.{looked_call}

module _ (v w : View) where
  pub block_writes_rules : (b : ℕ) (bytes : List ℕ) (r : Result (Unit {0}) Fault)
      → Counted (block_write_refusal disk_layer disk_offline (disk_means v) b (length bytes)) (disk_refuses b PowerOff) v (ChangesOne (written_frame bytes) b v.bytes) r w
      → BlockWrites disk_layer disk_offline disk_offline (disk_means v) b bytes r (disk_means w)
  block_writes_rules b bytes r h =
      counted_call blocks_in block_in (as_many 1026) _ _ v w (ChangesOne (written_frame bytes) b v.bytes) (Served (written (disk_means v) b bytes)) (WriteHalted (disk_means v) b bytes) r
      (λ e. (met e).0)
      (λ e f len q. inl (written_blocks v.power.on v.bytes w.bytes bytes b (ltb-true b (blocks_in v.bytes) (met e).2) (still e) len f q))
      (λ q. inl (inl refl)) h
    where
      met : block_write_refusal disk_layer disk_offline (disk_means v) b (length bytes) ≡ None
          → (v.power.on ≡ true) × (eqb (length bytes) 512 ≡ true) × (ltb b (blocks_in v.bytes) ≡ true) × (cond (is_unsettled (block_in v.bytes b)) (Some (disk_refuses b Unsettled)) None ≡ None)
      met e =
          in_order_met v.power.on (disk_refuses b PowerOff) (eqb (length bytes) 512) (ltb b (blocks_in v.bytes)) (disk_refuses b)
          (cond (is_unsettled (block_in v.bytes b)) (Some (disk_refuses b Unsettled)) None) e

      still : block_write_refusal disk_layer disk_offline (disk_means v) b (length bytes) ≡ None → is_unsettled (block_in v.bytes b) ≡ false
      still e = ap is_unsettled (write_settled disk_layer disk_offline (disk_means v) b (length bytes) e)

  pub block_syncs_rules : (r : Result (Unit {0}) Fault)
      → Counted (block_sync_refusal disk_offline (disk_means v)) (disk_refuses 0 PowerOff) v (ChangesAll settled_frame v.bytes) r w
      → BlockSyncs disk_offline disk_offline (disk_means v) r (disk_means w)
  block_syncs_rules r h =
      counted_call blocks_in block_in (as_many 1026) _ _ v w (ChangesAll settled_frame v.bytes) (Served (synced (disk_means v))) (Halted (disk_means v) (synced (disk_means v))) r
      (λ e. on_if v.power.on (disk_refuses 0 PowerOff) e) (λ e f len q. inl (blocks_settled v.bytes w.bytes len f q)) (λ q. inl refl) h

  pub block_powers_rules : Switched v (ChangesAll cut_frame v.bytes) w → BlockPowers disk_offline (disk_means v) (Ok tt) (disk_means w)
  block_powers_rules h = (
    refl,
    tt,
    switched_call blocks_in block_in (as_many 1026) v w (ChangesAll cut_frame v.bytes) (λ q. Cut Never (block_in v.bytes q))
        (λ f len q. cut_blocks v.bytes w.bytes len f q) h,
  )

-- a read
pub block_reads_rules : (v : View) (b : ℕ) (buf after : List ℕ) (r : Result (Unit {0}) Fault)
    → Looked (block_read_refusal disk_layer disk_offline (disk_means v) b (length buf)) (λ _. after ≡ reads (block_in v.bytes b)) (after ≡ buf) r
    → BlockReads disk_layer disk_offline disk_offline (disk_means v) b buf r after (disk_means v)
block_reads_rules v b buf after r h =
    looked_call blocks_in block_in _ (disk_refuses b PowerOff) v (Halted (disk_means v) (block_in v.bytes)) (λ _. after ≡ reads (block_in v.bytes b)) (after ≡ buf) r
    (λ e. (in_order_met v.power.on (disk_refuses b PowerOff) (eqb (length buf) 512) (ltb b (blocks_in v.bytes)) (disk_refuses b) None e).0) h
