use Rattle.std.proofs.Common.{sym, subst}
use Rattle.table.specs.Views.{table_of, Finds, remarked}
use Rattle.table.proofs.Tablewise.{kept}
use Rattle.table.proofs.Changing.{alone_held, remarked_none, remarked_proper}
use Rattle.table.proofs.Keeping.{table_proper, length_written, remarked_there}
use Rattle.table.proofs.mapping.MappingTable.remark.Goals as goal

pub returns-in_err-page-clause-after : goal.returns-in_err-page-clause-after
returns-in_err-page-clause-after c =
    let t = table_of c.args.self.now in
    let a = c.args.address.0 in
    sym (remarked_none t a (subst (Finds t a) c.in_err-page.ensures.ok_part c.find.ensures) c.args.mark)

pub invariant_of-self : goal.invariant_of-self
invariant_of-self c =
    let s = c.args.self.now in
    let t = table_of s in
    let a = c.args.address.0 in
    let m = c.args.mark in
    let only = subst (Finds t a) c.in_ok-page.ensures.ok_part c.find.ensures in
    let k = kept _ (remarked t m a) (remarked_there s a c.in_ok-page.page m c.deref_mut.result.now c.entry_with.result only c.deref_mut.ensures.value c.entry_with.ensures)
    (remarked_proper t (table_proper s) m a) in
    record {
      within = length_written 448 s.entries c.deref_mut.result.now c.in_ok-page.page.0 c.entry_with.result c.deref_mut.ensures.value s.within;
      fit = k.0;
      distinct = k.1;
    }

pub returns-clause-was : goal.returns-clause-was
returns-clause-was c =
    let t = table_of c.args.self.now in
    let a = c.args.address.0 in
    sym (alone_held t a c.in_ok-page.page.0 (subst (Finds t a) c.in_ok-page.ensures.ok_part c.find.ensures))

pub returns-clause-after : goal.returns-clause-after
returns-clause-after c =
    let s = c.args.self.now in
    let a = c.args.address.0 in
    let only = subst (Finds (table_of s) a) c.in_ok-page.ensures.ok_part c.find.ensures in
    remarked_there s a c.in_ok-page.page c.args.mark c.deref_mut.result.now c.entry_with.result only c.deref_mut.ensures.value c.entry_with.ensures
