-- A read of a half is one of the pair.
use Rattle.std.proofs.Common.{◌≡◌, true, arith}
use Rattle.pair.proofs.Halfwise.{read_first, read_second}
use Rattle.pair.proofs.pairs.ChipPairChip.read.Goals as goal
use Rattle.pair.proofs.pairs.ChipPairChip.read.Goals.{in-First, in-Second}

pub returns-clause-rules : goal.returns-clause-rules
returns-clause-rules g c =
    let s = c.self.inside in
    let p = c.args.page.0 in
    let o : s.on ≡ true = grind arith in
    elim c.match-half_of.branch [
      | in-First w ↦
          let x = w.read-answer in
          rw (← c.self.view_is, c.at_place.ensures, c.still_on-self-inside.ensures, w.answer-is, w.buf-is, w.self-inside-is)
          (read_first c.self.invariant o (g.P.Chip.meaning x.new.self) p c.args.buf.now x.new.buf (rw (← c.self.view_is) at w.in-First.ensures.0) x.result (rw w.in-First.ensures.1 at x.ensures.rules))
      | in-Second w ↦
          let x = w.read-answer-in-Second in
          rw (← c.self.view_is, c.at_place.ensures, c.still_on-self-inside.ensures, w.answer-is, w.buf-is, w.self-inside-is)
          (read_second c.self.invariant o (g.Q.Chip.meaning x.new.self) p w.in-Second.own.0 c.args.buf.now x.new.buf (rw (← c.self.view_is) at w.in-Second.ensures) x.result x.ensures.rules)
    ]
