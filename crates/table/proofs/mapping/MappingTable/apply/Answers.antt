use Rattle.std.proofs.Common.{sym, subst}
use Rattle.layout.specs.declared.entries.Mark.TheVariants.{Empty, Clean}
use Rattle.table.specs.Tables.{apply}
use Rattle.table.specs.Views.{table_of, Turns}
use Rattle.table.proofs.Changing.{turns_remarked}
use Rattle.table.proofs.mapping.MappingTable.apply.Goals as goal

pub returns-in-Drop : goal.returns-in-Drop
returns-in-Drop c =
    let t = table_of c.args.self.now in
    let u = table_of c.empty_address.new.self in
    subst (λ r. Turns t (apply t r) c.empty_address.result u) (sym c.in-Drop.is)
    (turns_remarked t u Empty c.in-Drop.address.0 c.empty_address.result c.empty_address.ensures.was c.empty_address.ensures.after)

pub returns-in-MarkClean : goal.returns-in-MarkClean
returns-in-MarkClean c =
    let t = table_of c.args.self.now in
    let u = table_of c.mark_clean.new.self in
    subst (λ r. Turns t (apply t r) c.mark_clean.result u) (sym c.in-MarkClean.is)
    (turns_remarked t u Clean c.in-MarkClean.address.0 c.mark_clean.result c.mark_clean.ensures.was c.mark_clean.ensures.after)
