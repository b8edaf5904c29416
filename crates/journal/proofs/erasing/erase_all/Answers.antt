-- Each erase goes on from the last, and the sync ends the row.
use Rattle.std.proofs.Common.{subst, ◌-◌}
use Rattle.std.proofs.lemmas.Result.{err_from_is_err_and}
use Rattle.journal.specs.Steps.{ErasesRow}
use Rattle.journal.proofs.Rows.{row_goes, row_breaks, row_ends}
use Rattle.journal.proofs.erasing.erase_all.Goals as goal

pub loop-b-init : goal.loop-b-init
loop-b-init g c =
    (λ r m' h. subst (λ x. ErasesRow x.start (x.end - x.start) (g.C.Chip.meaning c.args.chip.now) r m') c.into_iter-b-iterator.ensures.into_iter_gives h)

pub loop-b-preserved : goal.loop-b-preserved
loop-b-preserved g c =
    let s = c.loop-b.b-iterator in
    let t = c.next.new.self in
    let h = c.in-Some.ensures.steps in
    (λ r m' rest. c.loop-b.invariant r m'
    (row_goes s.start s.end t.start t.end c.in-Some.b (g.C.Chip.meaning c.loop-b.chip) (g.C.Chip.meaning c.erase.new.self) h.1.0 h.1.1 h.1.2 h.0
    c.in_ok-erase.ensures.rules r m' rest))

pub returns-in_err-erase : goal.returns-in_err-erase
returns-in_err-erase g c =
    let s = c.loop-b.b-iterator in
    let h = c.in-Some.ensures.steps in
    let p = err_from_is_err_and c.from_residual.result c.from_residual.ensures.1 in
    rw (p.1, p.2) (c.loop-b.invariant _ _ (row_breaks s.start s.end c.in-Some.b (g.C.Chip.meaning c.loop-b.chip) (g.C.Chip.meaning c.erase.new.self) _ h.1.0 h.1.1 c.in_err-erase.ensures.rules))

pub returns : goal.returns
returns g c =
    let s = c.loop-b.b-iterator in
    c.loop-b.invariant _ _ (row_ends s.start s.end (g.C.Chip.meaning c.loop-b.chip) (g.C.Chip.meaning c.sync.new.self) c.sync.result c.in-None.ensures.steps.1.0 c.sync.ensures.rules)
