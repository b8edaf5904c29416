-- The pages of an area, and the four erase blocks that they are.
use Rattle.std.proofs.Common.{◌≡◌, ℕ, ◌+◌, ◌<◌, ◌≤◌, true, false, sym, ◌∙◌, arith}
use Rattle.std.proofs.lemmas.Bool.{leb-true, ltb-true, le-leb, lt-ltb, and_parts, and_from, true≢false}
use Rattle.device.specs.Chips.{block_of}
use Rattle.layout.specs.declared.areas.Area.{Area}
use Rattle.layout.specs.declared.areas.Area.TheVariants.{One, Two}
use Rattle.layout.specs.Geometry.{first_page}
use Rattle.journal.specs.Notes.{in_area}

pub area_inside : (area : Area) (p : ℕ) → in_area area p ≡ true → (first_page area ≤ p) × (p < first_page area + 32)
area_inside area p h = let k = and_parts _ _ h in (leb-true _ _ k.0, ltb-true _ _ k.1)

pub area_outside : (area : Area) (p : ℕ) → in_area area p ≡ false → first_page area ≤ p → p < first_page area + 32 → ⊥
area_outside area p h a b = true≢false (sym (and_from _ _ (le-leb _ _ a) (lt-ltb _ _ b)) ∙ h)

abbrev pub first_block : Area → ℕ
first_block area = block_of (first_page area)

pub blocks_inside : (area : Area) (p : ℕ) → in_area area p ≡ true → (first_block area ≤ block_of p) × (block_of p < first_block area + 4)
blocks_inside One p h = let k = area_inside One p h in (omega arith, omega arith)
blocks_inside Two p h = let k = area_inside Two p h in (omega arith, omega arith)

pub blocks_outside : (area : Area) (p : ℕ) → in_area area p ≡ false → first_block area ≤ block_of p → block_of p < first_block area + 4 → ⊥
blocks_outside One p h a b = area_outside One p h (omega arith) (omega arith)
blocks_outside Two p h a b = area_outside Two p h (omega arith) (omega arith)

pub blocks_below : (area : Area) → first_block area + 4 ≤ 8
blocks_below One = omega arith
blocks_below Two = omega arith
