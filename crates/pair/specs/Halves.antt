-- Two chips joined: what the whole means, and how the answer of a half becomes the whole's.
use Rattle.std.specs.Prelude.{◌≡◌, ℕ, ◌+◌, ◌-◌, ◌<◌, ◌≤◌, Bool, true, cond, not, Ok, Err, Result, ◌==◌, nat_lt}
use Rattle.device.specs.declared.faults.Fault.{Fault}
use Rattle.device.specs.declared.places.ChipPage.{ChipPage}
use Rattle.device.specs.declared.places.EraseBlock.{EraseBlock}
use Rattle.device.specs.Faults.{refusal_number}
use Rattle.device.specs.Chips.{Pages, page_count}
use Rattle.pair.specs.declared.halves.Half.{Half}
use Rattle.pair.specs.declared.halves.Half.TheVariants.{First, Second}

-- the first k of x, then those of y
abbrev pub beside : {C : Type 0} → ℕ → (ℕ → C) → (ℕ → C) → ℕ → C
beside k x y q = cond (nat_lt q k) (x q) (y (q - k))

-- the erase blocks of a, then those of b, and so their pages
abbrev pub join : Bool → Pages → Pages → Pages
join on a b = record { on = on; size = a.size + b.size; cell = beside (page_count a) a.cell b.cell }

-- a pair: its two halves, and whether it is on
pub record Joined (P Q : Type 0) : Type 0 where
  pub first : P
  pub second : Q
  pub on : Bool

-- a pair that is on has both halves on, and it is not above 64 erase blocks
pub record Paired (on : Bool) (a b : Pages) : Type 0 where
  pub first_on : on ≡ true → a.on ≡ true
  pub second_on : on ≡ true → b.on ≡ true
  pub small : a.size + b.size ≤ 64

-- a fault at the place that the pair was given
abbrev pub placed : ℕ → Fault → Fault
placed p f = record { refusal = f.refusal; layer = f.layer; place = p }

abbrev pub placed_at : {T : Type 0} → ℕ → Result T Fault → Result T Fault
placed_at p (Ok x) = Ok x
placed_at p (Err f) = Err (placed p f)

-- a half that was on is on after every answer but number 1
abbrev pub keeps_power : {T : Type 0} → Result T Fault → Bool
keeps_power (Ok x) = true
keeps_power (Err f) = not (refusal_number f.refusal == 1)

-- where the place p lies: in the first half below the seam, as its own place, or in the second behind the seam
abbrev pub PageLies : ℕ → ℕ → Half ChipPage → Type 0
PageLies seam p (First own) = (p < seam) × (own.0 ≡ p)
PageLies seam p (Second own) = p ≡ seam + own.0

abbrev pub BlockLies : ℕ → ℕ → Half EraseBlock → Type 0
BlockLies seam b (First own) = (b < seam) × (own.0 ≡ b)
BlockLies seam b (Second own) = b ≡ seam + own.0
