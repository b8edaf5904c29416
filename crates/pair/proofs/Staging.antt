-- Power-on of a pair: the first half, then the second.
use Rattle.std.proofs.Common.{◌≡◌, Bool, true, false, ◌⊎◌, is_ok, Ok, Err, Result, refl, inl, inr, arith}
use Rattle.device.specs.declared.faults.Fault.{Fault}
use Rattle.device.specs.Cells.{Cut}
use Rattle.device.specs.Chips.{Pages, Tears, Powers}
use Rattle.pair.specs.Halves.{join, Joined}
use Rattle.pair.proofs.Joining.{join_becomes}
use Rattle.pair.specs.Pairs.{InTurn}

module _ (on : Bool) (a b a' b' : Pages) where
  -- power fails in the first half, and the second is not reached
  pub powers_first : (r : Result (Unit {0}) Fault) → ((x : Unit {0}) → r ≡ Ok x → ⊥) → Powers a r a' → Powers (join on a b) r (join (is_ok r) a' b)
  powers_first (Ok x) failed h = absurd (failed x refl)
  powers_first (Err f) failed (_, inl (e, _)) = absurd (grind arith)
  powers_first (Err f) failed (_, inr (_, l, s)) = (
    tt,
    inr (
      refl,
      l,
      join_becomes (λ x y z. (z ≡ x) ⊎ Cut Tears x z) false on a b a' b a.cell b.cell (join on a b).cell s.size refl (λ i. refl) s.cells (λ i. inl refl),
    ),
  )

  -- the first half served, and then the second answers
  pub powers_in_turn : (r : Result (Unit {0}) Fault) → Powers a (Ok tt) a' → Powers b r b' → Powers (join on a b) r (join (is_ok r) a' b')
  powers_in_turn (Ok x) (_, _, s) (_, _, t) = (
    refl,
    tt,
    join_becomes (λ x y z. Cut Tears x z) true on a b a' b' a.cell b.cell (join on a b).cell s.size t.size (λ i. refl) s.cells t.cells,
  )
  powers_in_turn (Err f) h (_, inl (e, _)) = absurd (grind arith)
  powers_in_turn (Err f) (_, _, s) (_, inr (_, l, t)) = (
    tt,
    inr (
      refl,
      l,
      join_becomes (λ x y z. (z ≡ x) ⊎ Cut Tears x z) false on a b a' b' a.cell b.cell (join on a b).cell s.size t.size (λ i. refl) (λ i. inr (s.cells i)) t.cells,
    ),
  )

-- a first half that served, and then whatever the second answered
pub both_in_turn : {P Q : Type 0} (meaning : P → Pages) (meaning' : Q → Pages) (does : Pages → Result (Unit {0}) Fault → Pages → Type 0) (c d : Joined P Q)
    (r : Result (Unit {0}) Fault) → does (meaning c.first) (Ok tt) (meaning d.first) → does (meaning' c.second) r (meaning' d.second)
    → InTurn meaning meaning' does c r d
both_in_turn meaning meaning' does c d (Ok tt) h k = (h, k)
both_in_turn meaning meaning' does c d (Err f) h k = inr (h, k)
