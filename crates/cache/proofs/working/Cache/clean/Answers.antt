-- The page that holds the address has its mark. What the memory's clean answers and leaves of a dirty one is handed on; a clean one is left as it is.
use Rattle.std.proofs.Common.{◌≡◌, None, sym, refl, ap, ◌∙◌, subst}
use Rattle.layout.specs.declared.entries.Mark.TheVariants.{Dirty}
use Rattle.table.specs.Tables.{mark_of}
use Rattle.table.specs.Views.{table_of, AloneAt}
use Rattle.journal.specs.Notes.{noted}
use Rattle.cache.specs.Refusals.{unless_off, held_refusal}
use Rattle.cache.specs.Views.{Working}
use Rattle.cache.specs.Caches.{CleanWork}
use Rattle.cache.proofs.Calling.{on_refusal, found_mark, found_clean, answered}
use Rattle.cache.proofs.working.Cache.clean.Goals as goal

pub clean-answer-requires-clause-dirty : goal.clean-answer-requires-clause-dirty
clean-answer-requires-clause-dirty g c =
    let t = (noted c.self.inside.memory.journal).table in
    let at = subst (λ v. AloneAt (noted v.journal).table c.args.address.0 c.in_ok-page.page.0) (sym c.self.view_is) c.in_ok-page.ensures.1 in
    found_mark t (table_of c.table.result.now) c.args.address.0 c.in_ok-page.page.0 c.entry.result at c.table.ensures c.entry.ensures ∙ c.in-Dirty.is

pub returns-in-Dirty-clause-call : goal.returns-in-Dirty-clause-call
returns-in-Dirty-clause-call g c =
    let w = c.self.inside.memory in
    let t = (noted w.journal).table in
    let a = c.args.address.0 in
    let cleaned = c.clean-answer.ensures in
    let at = subst (λ v. AloneAt (noted v.journal).table a c.in_ok-page.page.0) (sym c.self.view_is) c.in_ok-page.ensures.1 in
    let here = subst (λ v. held_refusal (noted v.journal).table a ≡ None) (sym c.self.view_is) c.in_ok-page.ensures.0 in
    let dirty : mark_of t a ≡ Dirty =
    found_mark t (table_of c.table.result.now) a c.in_ok-page.page.0 c.entry.result at c.table.ensures c.entry.ensures ∙ c.in-Dirty.is in
    let before : Working g.row.C.Denot = record { chip = c.self.inside.chip; journal = w.journal; space = w.space; off = c.self.inside.off } in
    let after : Working g.row.C.Denot =
    record { chip = c.clean-answer.new.chip; journal = c.clean-answer.new.self.journal; space = c.clean-answer.new.self.space; off = c.off_after-self-inside.result } in
    rw (← c.self.view_is) (answered g.C.Chip.meaning (unless_off c.self.inside.off (held_refusal t a)) (λ r. CleanWork g.C.Chip.meaning (mark_of t a) a before r after)
    before after c.clean-answer.result (on_refusal c.self.inside.off _ (ap (λ v. v.off) c.self.view_is ∙ c.in_ok-awake.ensures.awake) here) c.off_after-self-inside.ensures
    (subst (λ z. CleanWork g.C.Chip.meaning z a before c.clean-answer.result after) (sym dirty) (cleaned.cleans, cleaned.space)))

pub returns-in-Clean : goal.returns-in-Clean
returns-in-Clean g c =
    let s = c.args.self.now in
    let a = c.args.address.0 in
    let same = ap (λ v. (noted v.journal).table) c.self.view_is in
    let clean = found_clean (noted s.journal).table (table_of c.table.result.now) a c.in_ok-page.page.0 c.entry.result
    c.in_ok-page.ensures.1 (c.table.ensures ∙ same) c.entry.ensures c.in-Clean.is in
    record {
      sound = c.in_ok-awake.ensures.sound;
      size = refl;
      call = (on_refusal s.off _ c.in_ok-awake.ensures.awake c.in_ok-page.ensures.0, c.in_ok-awake.ensures.awake, rw clean (refl, refl));
    }
