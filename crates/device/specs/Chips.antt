-- What a flash chip means, and what each of its calls may do.
use Rattle.std.specs.Prelude.{◌≡◌, ℕ, zero, suc, ◌+◌, ◌*◌, ◌/◌, Bool, true, false, cond, ◌&&◌, ◌||◌, ◌⊎◌, List, length, Some, None, Option, Result, ◌==◌, nat_lt}
use Rattle.device.specs.declared.faults.Fault.{Fault}
use Rattle.device.specs.declared.faults.Refusal.TheVariants.{PowerOff, Unsettled, NotBlank, Torn, Blank}
use Rattle.device.specs.Cells.{Cell, Meaning, reads, is_unsettled, Cut}
use Rattle.device.specs.Cells.Cell.{settled, unsettled}
use Rattle.device.specs.Faults.{chip_fault}
use Rattle.device.specs.Calls.{Call, Served, Halted, in_order}

-- kind, count, address: what stands in a page's spare area
abbrev pub Note : Type 0
Note = ℕ × ℕ × ℕ

pub data State : Type 0 where
  blank : State
  torn : State
  held : Note → List ℕ → State

-- A chip's cells are its pages, eight to an erase block; its size is the number of erase blocks.
abbrev pub Pages : Type 0
Pages = Meaning State

abbrev pub page_count : Pages → ℕ
page_count m = 8 * m.size

-- the erase block of a chip page, and the chip page of a data page
abbrev pub block_of : ℕ → ℕ
block_of p = p / 8

abbrev pub data_page_at : ℕ → ℕ
data_page_at i = 64 + i

-- a power cut may also tear an unsettled page
abbrev pub Tears : State → Type 0
Tears s = s ≡ torn

-- Read

abbrev pub read_at : ℕ → State → Option Fault
read_at p blank = Some (chip_fault p Blank)
read_at p torn = Some (chip_fault p Torn)
read_at p (held note bytes) = None

abbrev pub read_refusal : Pages → ℕ → ℕ → Option Fault
read_refusal m p len =
    in_order m.on (chip_fault p PowerOff) (len == 512) (nat_lt p (page_count m)) (chip_fault p) (read_at p (reads (m.cell p)))

abbrev pub Reads : Pages → ℕ → List ℕ → Result Note Fault → List ℕ → Pages → Type 0
Reads m p buf r after n =
    Call (read_refusal m p (length buf)) (chip_fault p PowerOff) m (Served m.cell) (Halted m m.cell) (λ note. reads (m.cell p) ≡ held note after)
    (after ≡ buf) r n

-- Program

abbrev pub program_at : ℕ → Cell State → Option Fault
program_at p (settled blank) = None
program_at p (settled torn) = Some (chip_fault p NotBlank)
program_at p (settled (held note bytes)) = Some (chip_fault p NotBlank)
program_at p (unsettled was s) = Some (chip_fault p Unsettled)

abbrev pub program_refusal : Pages → ℕ → ℕ → Option Fault
program_refusal m p len =
    in_order m.on (chip_fault p PowerOff) (len == 512) (nat_lt p (page_count m)) (chip_fault p) (program_at p (m.cell p))

abbrev pub programmed : Pages → ℕ → Note → List ℕ → ℕ → Cell State
programmed m p note bytes q = cond (q == p) (unsettled blank (held note bytes)) (m.cell q)

abbrev pub Programs : Pages → ℕ → Note → List ℕ → Result (Unit {0}) Fault → Pages → Type 0
Programs m p note bytes r n =
    Call (program_refusal m p (length bytes)) (chip_fault p PowerOff) m (Served (programmed m p note bytes)) (Halted m (programmed m p note bytes))
    (λ _. Unit {0}) (Unit {0}) r n

-- Erase

-- one of the first k pages is unsettled and lies in the erase block b
unfoldable pub unsettled_in : (ℕ → Cell State) → ℕ → ℕ → Bool
unsettled_in pages b zero = false
unsettled_in pages b (suc p) = (block_of p == b && is_unsettled (pages p)) || unsettled_in pages b p

abbrev pub erase_refusal : Pages → ℕ → Option Fault
erase_refusal m b =
    in_order m.on (chip_fault b PowerOff) true (nat_lt b m.size) (chip_fault b)
    (cond (unsettled_in m.cell b (page_count m)) (Some (chip_fault b Unsettled)) None)

-- a blank page is not changed
abbrev pub erased : Cell State → Cell State
erased (settled blank) = settled blank
erased (settled torn) = unsettled torn blank
erased (settled (held note bytes)) = unsettled (held note bytes) blank
erased (unsettled was s) = unsettled was s

abbrev pub erased_block : Pages → ℕ → ℕ → Cell State
erased_block m b q = cond (block_of q == b) (erased (m.cell q)) (m.cell q)

abbrev pub Erases : Pages → ℕ → Result (Unit {0}) Fault → Pages → Type 0
Erases m b r n =
    Call (erase_refusal m b) (chip_fault b PowerOff) m (Served (erased_block m b)) (Halted m (erased_block m b)) (λ _. Unit {0}) (Unit {0}) r n

-- Sync

abbrev pub sync_refusal : Pages → Option Fault
sync_refusal m = cond m.on None (Some (chip_fault 0 PowerOff))

abbrev pub synced : {S : Type 0} → Meaning S → ℕ → Cell S
synced m q = settled (reads (m.cell q))

abbrev pub Syncs : Pages → Result (Unit {0}) Fault → Pages → Type 0
Syncs m r n = Call (sync_refusal m) (chip_fault 0 PowerOff) m (Served (synced m)) (Halted m (synced m)) (λ _. Unit {0}) (Unit {0}) r n

-- Power-on: a power cut, then power

abbrev pub Powers : Pages → Result (Unit {0}) Fault → Pages → Type 0
Powers m r n =
    Call None (chip_fault 0 PowerOff) m (λ q. Cut Tears (m.cell q)) (λ q c. (c ≡ m.cell q) ⊎ Cut Tears (m.cell q) c) (λ _. Unit {0}) (Unit {0}) r n
