use Rattle.std.proofs.Common.{ℕ, [], vec_items, sym, refl, subst, take_all, rules}
use lib.ListN.{length-replicate}
use Rattle.history.specs.Histories.{Runs, at_first}
use Rattle.history.specs.Histories.Phase.{on}
use Rattle.history.proofs.Followed.{reached_more}
use Rattle.history.proofs.runs.answer_all.Goals as goal

pub loop-call-init : goal.loop-call-init
loop-call-init g c = (
  (on at_first, subst (λ xs. Runs (on at_first) [] xs (on at_first)) (sym c.requires.none.0) refl, c.requires.follows),
  c.requires.none.1,
  c.requires.room,
  length-replicate {A = ℕ} 65536 0,
)

pub loop-call-preserved : goal.loop-call-preserved
loop-call-preserved g c =
    let served = c.serve-answer.ensures in
    let inv = c.loop-call.invariant in (
      reached_more g.C.Chip.meaning c.args.calls.now c.loop-call.call-index (vec_items c.loop-call.answers) (vec_items c.push_reserved.new.self)
          c.loop-call.cache c.serve-answer.new.cache _ c.serve-answer.result c.loop-call-test.true (search rules) c.push_reserved.ensures.items served.size served.serves inv.0,
      search rules,
      search rules,
      search rules,
    )

pub returns : goal.returns
returns g c =
    record {
      law = (
        c.loop-call.invariant.0.0,
        subst (λ cs. Runs (on at_first) cs (vec_items c.loop-call.answers) c.loop-call.invariant.0.0)
            (take_all c.loop-call.call-index c.args.calls.now c.loop-call-test.false) c.loop-call.invariant.0.1,
      );
    }
