use Rattle.std.proofs.Common.{rules}
use Rattle.table.specs.Tables.{without}
use Rattle.table.specs.Views.{table_of}
use Rattle.journal.specs.Notes.{noted}
use Rattle.journal.proofs.Dropped.{droppable, page_staged}
use Rattle.journal.proofs.memory.Journal.drop_page.Goals as goal

pub stage_for_later-requires-clause-fits : goal.stage_for_later-requires-clause-fits
stage_for_later-requires-clause-fits c =
    let t = table_of c.args.self.now.table in
    (without t c.entry-entry.result.address.0, droppable t c.args.page.0 c.entry-entry.result c.entry-entry.ensures (search rules))

pub returns-then-ne-clause-after : goal.returns-then-ne-clause-after
returns-then-ne-clause-after c =
    let t = table_of c.args.self.now.table in
    let e = c.entry-entry.result in
    page_staged (noted c.args.self.now) (noted c.stage_for_later.new.self) c.args.page.0 e c.entry-entry.ensures (search rules)
    (c.stage_for_later.ensures.after (without t e.address.0) (droppable t c.args.page.0 e c.entry-entry.ensures (search rules)))
