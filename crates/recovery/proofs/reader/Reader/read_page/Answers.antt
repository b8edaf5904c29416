use Rattle.std.proofs.Common.{suc, MatchResult, subst, rules}
use Rattle.layout.specs.Geometry.{data_pages}
use Rattle.table.specs.Tables.{Table}
use Rattle.recovery.specs.Recovering.{Entered}
use Rattle.recovery.specs.Looking.{shown, Saw}
use Rattle.recovery.proofs.Pageful.{page_entered}
use Rattle.recovery.proofs.reader.Reader.read_page.Goals as goal

pub returns-clause-found : goal.returns-clause-found
returns-clause-found g c =
    let s = shown (g.C.Chip.meaning c.args.self.now.chip.now) in
    let D = data_pages c.args.self.now.geometry.blocks in
    let seen = c.in_ok-seen.ensures in
    let entered : MatchResult c.take_entries.result (λ _. Entered D s c.args.area (suc c.args.j) c.take_entries.new.table) (λ _. (v : Table) → Entered D s c.args.area (suc c.args.j) v → ⊥) =
    page_entered D s c.args.area c.args.j c.args.table.now c.requires.sofar c.take_entries.new.table c.take_entries.result
    (c.take_entries.ensures _ (subst (λ p. Saw (s p) c.in_ok-seen.seen c.look.new.self.page) c.entry_page-page.ensures seen.saw.1)) in
    search rules
