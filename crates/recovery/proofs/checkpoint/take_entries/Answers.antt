use Rattle.std.proofs.Common.{subst, rules}
use Rattle.recovery.specs.Looking.{Saw}
use Rattle.recovery.proofs.Pageful.{taken_read, taken_twice}
use Rattle.recovery.proofs.checkpoint.take_entries.Goals as goal

pub returns-then-distinct_in : goal.returns-then-distinct_in
returns-then-distinct_in c page saw =
    taken_read page c.in-Held.note c.args.bytes.now c.args.j c.args.table.now c.read_entries.new.table c.min-end.result
    (subst (λ z. Saw page z c.args.bytes.now) c.in-Held.is saw) c.read_entries.auto.table c.min-end.ensures c.in_ok-read_entries.ensures (search rules)

pub returns-else-distinct_in : goal.returns-else-distinct_in
returns-else-distinct_in c page saw =
    taken_twice page c.in-Held.note c.args.bytes.now c.args.j c.args.table.now c.read_entries.new.table c.min-end.result
    (subst (λ z. Saw page z c.args.bytes.now) c.in-Held.is saw) c.read_entries.auto.table c.min-end.ensures c.in_ok-read_entries.ensures (search rules)
