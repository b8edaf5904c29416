-- What a pair is, by its halves.
use Rattle.std.proofs.Common.{◌≡◌, Bool, sym, ap, subst}
use Rattle.device.specs.Chips.{Pages}
use Rattle.pair.specs.Halves.{join, Joined, Paired}
use Rattle.pair.specs.Pairs.{pair_meaning}

module _ {P Q : Type 0} (meaning : P → Pages) (meaning' : Q → Pages) (x : Joined P Q) (p : P) (q : Q) (on : Bool) (e : x ≡ record { first = p; second = q; on = on }) where
  pub means_now : pair_meaning meaning meaning' x ≡ join on (meaning p) (meaning' q)
  means_now = ap (pair_meaning meaning meaning') e

  pub sound_now : Paired on (meaning p) (meaning' q) → Paired x.on (meaning x.first) (meaning' x.second)
  sound_now h = subst (λ z. Paired z.on (meaning z.first) (meaning' z.second)) (sym e) h
