-- The next log page: programmed, and settled by the sync behind it.
use Rattle.std.proofs.Common.{Ok, Err, length, sym, refl, ap, ◌∙◌}
use Rattle.std.proofs.lemmas.Result.{err_from_is_err_and}
use Rattle.layout.specs.Pages.{log_note, log_data}
use Rattle.journal.specs.Notes.{noted, pages_of}
use Rattle.journal.proofs.Committing.{log_call, log_unprogrammed, log_unsettled, log_served}
use Rattle.journal.proofs.memory.Journal.log.Goals as goal

pub returns-in_err-program : goal.returns-in_err-program
returns-in_err-program g c =
    let j = c.args.self.now in
    let m = g.C.Chip.meaning c.args.chip.now in
    let m₁ = g.C.Chip.meaning c.program.new.self in
    let note = c.write_log-note in
    let bytes = note.ensures.bytes ∙ ap log_data c.deref.ensures.0 in
    let h = c.in_err-program.ensures in
    let p = err_from_is_err_and c.from_residual.result c.from_residual.ensures.1 in
    record {
      size = refl;
      commits = rw (p.1, p.2) (log_unprogrammed (pages_of j) m m₁ (noted j) c.requires.ready c.requires.settled c.requires.some c.requires.room _
          (ap length (sym bytes) ∙ note.auto.page)
          (log_call (pages_of j) m m₁ j.area j.next c.log_page.result.0 note.result note.new.page j.staged.items (Err c.in_err-program.field-0.0) c.log_page.ensures (note.ensures.note ∙ ap log_note c.deref.ensures.0) bytes h.rules));
    }

pub returns-in_err-sync : goal.returns-in_err-sync
returns-in_err-sync g c =
    let j = c.args.self.now in
    let m = g.C.Chip.meaning c.args.chip.now in
    let m₁ = g.C.Chip.meaning c.program.new.self in
    let m₂ = g.C.Chip.meaning c.sync.new.self in
    let note = c.write_log-note in
    let bytes = note.ensures.bytes ∙ ap log_data c.deref.ensures.0 in
    let h = c.in_err-sync.ensures in
    let p = err_from_is_err_and c.from_residual-in_err-sync.result c.from_residual-in_err-sync.ensures.1 in
    record {
      size = refl;
      commits = rw (p.1, p.2) (log_unsettled (pages_of j) m m₁ (noted j) c.requires.ready c.requires.settled c.requires.some c.requires.room m₂
          (log_call (pages_of j) m m₁ j.area j.next c.log_page.result.0 note.result note.new.page j.staged.items (Ok tt) c.log_page.ensures (note.ensures.note ∙ ap log_note c.deref.ensures.0) bytes c.in_ok-program.ensures.rules)
          _ h.rules);
    }

pub returns : goal.returns
returns g c =
    let j = c.args.self.now in
    let m = g.C.Chip.meaning c.args.chip.now in
    let m₁ = g.C.Chip.meaning c.program.new.self in
    let m₂ = g.C.Chip.meaning c.sync.new.self in
    let note = c.write_log-note in
    let bytes = note.ensures.bytes ∙ ap log_data c.deref.ensures.0 in
    let h = c.in_ok-sync.ensures in
    record {
      size = refl;
      commits = log_served (pages_of j) m m₁ (noted j) c.requires.ready c.requires.settled c.requires.some c.requires.room m₂
          (log_call (pages_of j) m m₁ j.area j.next c.log_page.result.0 note.result note.new.page j.staged.items (Ok tt) c.log_page.ensures (note.ensures.note ∙ ap log_note c.deref.ensures.0) bytes c.in_ok-program.ensures.rules)
          c.clear.new.self.items c.clear.ensures h.rules;
    }
