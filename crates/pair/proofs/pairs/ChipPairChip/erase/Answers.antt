-- An erase of a half is one of the pair.
use Rattle.std.proofs.Common.{◌≡◌, true, arith}
use Rattle.pair.proofs.Halfwise.{erase_in_first, erase_in_second}
use Rattle.pair.proofs.pairs.ChipPairChip.erase.Goals as goal
use Rattle.pair.proofs.pairs.ChipPairChip.erase.Goals.{in-First, in-Second}

pub returns-clause-rules : goal.returns-clause-rules
returns-clause-rules g c =
    let s = c.self.inside in
    let e = c.args.block.0 in
    let o : s.on ≡ true = grind arith in
    elim c.match-half_of_block.branch [
      | in-First w ↦
          let x = w.erase-answer in
          rw (← c.self.view_is, c.at_place.ensures, c.still_on-self-inside.ensures, w.answer-is, w.self-inside-is)
          (erase_in_first c.self.invariant o (g.P.Chip.meaning x.new.self) e (rw (← c.self.view_is) at w.in-First.ensures.0) x.result (rw w.in-First.ensures.1 at x.ensures.rules))
      | in-Second w ↦
          let x = w.erase-answer-in-Second in
          rw (← c.self.view_is, c.at_place.ensures, c.still_on-self-inside.ensures, w.answer-is, w.self-inside-is)
          (erase_in_second c.self.invariant o (g.Q.Chip.meaning x.new.self) e w.in-Second.own.0 (rw (← c.self.view_is) at w.in-Second.ensures) x.result x.ensures.rules)
    ]
