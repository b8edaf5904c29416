-- A program of a half is one of the pair.
use Rattle.std.proofs.Common.{◌≡◌, true, arith}
use Rattle.pair.proofs.Halfwise.{program_first, program_second}
use Rattle.pair.proofs.pairs.ChipPairChip.program.Goals as goal
use Rattle.pair.proofs.pairs.ChipPairChip.program.Goals.{in-First, in-Second}

pub returns-clause-rules : goal.returns-clause-rules
returns-clause-rules g c =
    let s = c.self.inside in
    let p = c.args.page.0 in
    let o : s.on ≡ true = grind arith in
    elim c.match-half_of.branch [
      | in-First w ↦
          let x = w.program-answer in
          rw (← c.self.view_is, c.at_place.ensures, c.still_on-self-inside.ensures, w.answer-is, w.self-inside-is)
          (program_first c.self.invariant o _ p c.args.note c.args.bytes.now (rw (← c.self.view_is) at w.in-First.ensures.0) x.result (rw w.in-First.ensures.1 at x.ensures.rules))
      | in-Second w ↦
          let x = w.program-answer-in-Second in
          rw (← c.self.view_is, c.at_place.ensures, c.still_on-self-inside.ensures, w.answer-is, w.self-inside-is)
          (program_second c.self.invariant o _ p w.in-Second.own.0 c.args.note c.args.bytes.now (rw (← c.self.view_is) at w.in-Second.ensures) x.result x.ensures.rules)
    ]
