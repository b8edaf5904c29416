-- The trailer's page is programmed and settled.
use Rattle.std.proofs.Common.{ap, ◌∙◌, arith}
use Rattle.std.proofs.lemmas.Result.{err_from_is_err_and}
use Rattle.layout.specs.Geometry.{data_pages, trailer_at}
use Rattle.layout.specs.Pages.{trailer_data}
use Rattle.journal.proofs.Closing.{closing_fails, closing_ends}
use Rattle.journal.proofs.areas.close_other.Goals as goal

pub returns-in_err-program : goal.returns-in_err-program
returns-in_err-program g c =
    let m = g.C.Chip.meaning c.args.chip.now in
    let n = g.C.Chip.meaning c.program.new.self in
    let h = c.in_err-program.ensures in
    let p = err_from_is_err_and c.from_residual.result c.from_residual.ensures.1 in
    let D = data_pages c.args.geometry.blocks in
    let left = closing_fails D (omega arith) c.args.active c.args.number m c.requires.on (omega arith) c.requires.settled c.requires.free
    c.trailer_page.result.0 c.write_trailer-note.result c.write_trailer-note.new.page (c.trailer_page.ensures ∙ ap (trailer_at D) c.other-2.ensures)
    c.write_trailer-note.ensures.note (c.write_trailer-note.ensures.bytes ∙ ap (λ a. trailer_data a D) c.other.ensures) n _
    c.write_trailer-note.auto.page h.rules in
    record { done = rw (p.1, p.2) left.done; others = left.others; over = rw p.1 left.over }

pub returns : goal.returns
returns g c =
    let m = g.C.Chip.meaning c.args.chip.now in
    let n = g.C.Chip.meaning c.program.new.self in
    let n' = g.C.Chip.meaning c.sync.new.self in
    let h = c.sync.ensures in
    let D = data_pages c.args.geometry.blocks in
    let left = closing_ends D (omega arith) c.args.active c.args.number m c.requires.on (omega arith) c.requires.settled c.requires.free
    c.trailer_page.result.0 c.write_trailer-note.result c.write_trailer-note.new.page (c.trailer_page.ensures ∙ ap (trailer_at D) c.other-2.ensures)
    c.write_trailer-note.ensures.note (c.write_trailer-note.ensures.bytes ∙ ap (λ a. trailer_data a D) c.other.ensures) n
    c.in_ok-program.ensures.rules n' c.sync.result h.rules in
    record { done = left.done; others = left.others; over = left.over }
