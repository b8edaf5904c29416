-- Cells that are settled or unsettled: the one theory behind chips and disks. S is what a cell can read as.
use Rattle.std.specs.Prelude.{◌≡◌, ℕ, Bool, true, false, ◌⊎◌}

-- an unsettled cell has its state from before, and then the one that it now reads as
pub data Cell (S : Type 0) : Type 0 where
  settled : S → Cell S
  unsettled : S → S → Cell S

abbrev pub reads : {S : Type 0} → Cell S → S
reads (settled s) = s
reads (unsettled was s) = s

abbrev pub is_unsettled : {S : Type 0} → Cell S → Bool
is_unsettled (settled s) = false
is_unsettled (unsettled was s) = true

-- what a device means: whether it is on, how large it is, and its cells
pub record Meaning (S : Type 0) : Type 0 where
  pub on : Bool
  pub size : ℕ
  pub cell : ℕ → Cell S

-- a cell that is as wanted, or settled early as that reads
abbrev pub Early : {S : Type 0} → Cell S → Cell S → Type 0
Early c d = (d ≡ c) ⊎ (d ≡ settled (reads c))

-- a power cut may leave the cell as s: as before or as it reads, if it is unsettled, or as `Other` says
abbrev pub Ends : {S : Type 0} → (S → Type 0) → Cell S → S → Type 0
Ends Other (settled x) s = s ≡ x
Ends Other (unsettled was x) s = (s ≡ was) ⊎ ((s ≡ x) ⊎ Other s)

-- the cell d is what a power cut may leave of c, settled
abbrev pub Cut : {S : Type 0} → (S → Type 0) → Cell S → Cell S → Type 0
Cut {S} Other c d = (s : S) × (d ≡ settled s) × Ends Other c s

-- s is one of the ways in which a power cut may leave the cells, each for itself
abbrev pub Leaves : {S : Type 0} → (S → Type 0) → (ℕ → Cell S) → (ℕ → S) → Type 0
Leaves Other cell s = (i : ℕ) → Ends Other (cell i) (s i)

-- the device is now on or off, as large as it was, and each cell is as `each` says
pub record Becomes {S : Type 0} (on : Bool) (m : Meaning S) (each : ℕ → Cell S → Type 0) (n : Meaning S) : Type 0 where
  pub power : n.on ≡ on
  pub size : n.size ≡ m.size
  pub cells : (i : ℕ) → each i (n.cell i)
