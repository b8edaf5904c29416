use Rattle.std.proofs.Common.{◌<◌, set, sym, ap, ◌∙◌, rules}
use Rattle.table.specs.Tables.{entry, entered}
use Rattle.table.specs.Views.{table_of}
use Rattle.table.proofs.Tablewise.{kept}
use Rattle.table.proofs.Changing.{enterable, entered_proper}
use Rattle.table.proofs.Keeping.{table_proper, written, length_written}
use Rattle.table.proofs.mapping.MappingTable.enter.Goals as goal

pub invariant_of-self : goal.invariant_of-self
invariant_of-self c =
    let t = table_of c.args.self.now in
    let p = c.args.page.0 in
    let m = c.args.mark in
    let a = c.args.address.0 in
    let small : a < 4294967296 = search rules in
    let q = enterable t p m (sym c.if-not-may_enter.ensures) in
    let k = kept _ (entered t p m a)
    (written c.empty_address.new.self.entries c.deref_mut.result.now p (entry m a) c.deref_mut.ensures.value ∙ ap (λ u. set u p (entry m a)) c.empty_address.ensures.after)
    (entered_proper t (table_proper c.args.self.now) p m a q.1 q.0 small) in
    record {
      within = length_written 448 c.empty_address.new.self.entries c.deref_mut.result.now p (entry m a) c.deref_mut.ensures.value c.empty_address.new.self.within;
      fit = k.0;
      distinct = k.1;
    }
