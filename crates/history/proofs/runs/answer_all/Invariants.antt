use Rattle.std.proofs.Common.{◌≡◌, ◌≤◌, length, take, vec_items, vec_len, vec_capacity}
use Rattle.history.proofs.Followed.{Reached}
use Rattle.history.proofs.runs.answer_all.Given as goal

abbrev pub invariant-loop-call : goal.invariant-loop-call
invariant-loop-call g l =
    Reached g.C.Chip.meaning (take l.call-index l.calls) (vec_items l.answers) l.cache
    × (vec_len l.answers ≡ l.call-index)
    × (length l.calls ≤ vec_capacity l.answers)
    × (length l.scratch ≡ 65536)
