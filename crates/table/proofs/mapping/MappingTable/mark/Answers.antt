use Rattle.std.proofs.Common.{sym, ap, ◌∙◌}
use Rattle.table.specs.Views.{table_of}
use Rattle.table.proofs.Tablewise.{mark_unheld}
use Rattle.table.proofs.Changing.{alone_mark}
use Rattle.table.proofs.mapping.MappingTable.mark.Goals as goal

pub returns-in-Some : goal.returns-in-Some
returns-in-Some c =
    ap (λ e. e.mark) c.entry.ensures
    ∙ sym (alone_mark (table_of c.args.self.now) c.args.address.0 c.in-Some.page.0 c.in-Some.ensures)

pub returns-in-None : goal.returns-in-None
returns-in-None c = sym (mark_unheld (table_of c.args.self.now) c.args.address.0 c.in-None.ensures)
