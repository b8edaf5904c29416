use Rattle.std.proofs.Common.{◌≡◌, true, false, take, sym, rules, tests}
use Rattle.std.proofs.lemmas.Bool.{true≢false}
use Rattle.table.specs.Tables.{has_mark, entry_at, held}
use Rattle.recovery.proofs.Distinctness.{distinct_more, not_distinct}
use Rattle.recovery.proofs.checkpoint.distinct_in.Goals as goal
use Rattle.recovery.proofs.checkpoint.distinct_in.Goals.{else-ne-via-then-ne+else-held_in, else-ne-via-else-ne}

pub returns-then-held_in : goal.returns-then-held_in
returns-then-held_in c =
    let xs = c.args.entries.now in
    let j = c.loop-j.j in
    let marked : has_mark (entry_at xs j).mark ≡ true = search (rules, tests) in
    let before : held (take j xs) (entry_at xs j).address.0 ≡ true = search rules in (
      λ no_way. absurd (true≢false (sym no_way)),
      λ d. absurd (not_distinct xs j c.loop-j-test.true marked before d),
    )

pub loop-j-preserved : goal.loop-j-preserved
loop-j-preserved c =
    let xs = c.args.entries.now in
    let j = c.loop-j.j in
    let free : has_mark (entry_at xs j).mark ≡ true → held (take j xs) (entry_at xs j).address.0 ≡ false =
    λ m. elim c.else-ne.branch [
      | else-ne-via-then-ne+else-held_in w ↦ search rules
      | else-ne-via-else-ne w ↦ search (rules, tests)
    ] in
    distinct_more xs j free c.loop-j.invariant
