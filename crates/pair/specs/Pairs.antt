-- What a pair means, and what making one answers.
use Rattle.std.specs.Prelude.{◌≡◌, ◌+◌, ◌<◌, ◌≤◌, false, ◌⊎◌, Ok, Err, Result}
use Rattle.device.specs.declared.faults.Fault.{Fault}
use Rattle.device.specs.declared.faults.Refusal.TheVariants.{BadGeometry}
use Rattle.device.specs.Faults.{chip_fault}
use Rattle.device.specs.Chips.{Pages}
use Rattle.pair.specs.declared.pairs.TooLarge.{TooLarge}
use Rattle.pair.specs.Halves.{join, Joined, Paired}

-- over any two chips, by what they mean
module _ {P Q : Type 0} (meaning : P → Pages) (meaning' : Q → Pages) where
  abbrev pub pair_meaning : Joined P Q → Pages
  pair_meaning c = join c.on (meaning c.first) (meaning' c.second)

  -- Up to 64 erase blocks make a pair of these very chips, which is off. Above that the chips come back as they were, with number 12.
  abbrev pub PairMade : P → Q → Result (Joined P Q) (TooLarge P Q) → Type 0
  PairMade p q (Ok pair) = ((meaning p).size + (meaning' q).size ≤ 64) × (pair.first ≡ p) × (pair.second ≡ q) × (pair.on ≡ false)
  PairMade p q (Err e) = (64 < (meaning p).size + (meaning' q).size) × (e ≡ record { fault = chip_fault 0 BadGeometry; first = p; second = q })

  -- such a pair keeps what a pair keeps true of itself, and it means the two chips joined, off
  abbrev pub PairOpens : P → Q → Result (Joined P Q) (TooLarge P Q) → Type 0
  PairOpens p q (Ok pair) =
      Paired pair.on (meaning pair.first) (meaning' pair.second) × (pair_meaning pair ≡ join false (meaning p) (meaning' q))
  PairOpens p q (Err e) = Unit {0}

  -- A call of the first half and, only if that is served, of the second. `does` says what the call may do to a chip.
  abbrev pub InTurn : (Pages → Result (Unit {0}) Fault → Pages → Type 0) → Joined P Q → Result (Unit {0}) Fault → Joined P Q → Type 0
  InTurn does c (Ok x) d = does (meaning c.first) (Ok x) (meaning d.first) × does (meaning' c.second) (Ok x) (meaning' d.second)
  InTurn does c (Err f) d =
      (does (meaning c.first) (Err f) (meaning d.first) × (d.second ≡ c.second))
      ⊎ (does (meaning c.first) (Ok tt) (meaning d.first) × does (meaning' c.second) (Err f) (meaning' d.second))
