-- Each entry page goes on from the last, and the sync settles them.
use Rattle.std.proofs.Common.{◌≡◌, length, sym, refl, ap, ◌∙◌, subst, arith}
use Rattle.std.proofs.lemmas.Result.{err_from_is_err_and}
use Rattle.layout.specs.Geometry.{data_pages, entry_pages, entry_page_at}
use Rattle.layout.specs.Pages.{entry_data}
use Rattle.table.specs.Views.{table_of}
use Rattle.journal.proofs.Filling.{Filling, filling_none, filling_more, filling_fails, filling_ends}
use Rattle.journal.proofs.areas.fill_other.Goals as goal

pub loop-j-init : goal.loop-j-init
loop-j-init g c =
    (refl, filling_none (data_pages c.args.geometry.blocks) c.args.active (table_of c.args.table.now) (g.C.Chip.meaning c.args.chip.now) c.requires.on)

pub slice_bounds-write_entries-end : goal.slice_bounds-write_entries-end
slice_bounds-write_entries-end g c = sym c.loop-j.invariant.0

pub write_entries-note-requires : goal.write_entries-note-requires
write_entries-note-requires g c = record { inside = omega (arith, ap length c.as_slice.ensures, c.requires.long); whole = c.loop-j.invariant.0 }

pub returns-in_err-program : goal.returns-in_err-program
returns-in_err-program g c =
    let m = g.C.Chip.meaning c.args.chip.now in
    let n = g.C.Chip.meaning c.loop-j.chip in
    let n' = g.C.Chip.meaning c.program.new.self in
    let h = c.in_err-program.ensures in
    let p = err_from_is_err_and c.from_residual.result c.from_residual.ensures.1 in
    let D = data_pages c.args.geometry.blocks in
    let t = table_of c.args.table.now in
    let left = filling_fails D (omega arith) c.args.active t m c.requires.settled c.requires.free c.loop-j.j n c.loop-j.invariant.1 (omega arith) (omega arith)
    c.entry_page.result.0 c.write_entries-note.result c.write_entries-note.new.page (c.entry_page.ensures ∙ ap (λ a. entry_page_at a c.loop-j.j) c.other.ensures)
    c.write_entries-note.ensures.note (c.write_entries-note.ensures.bytes ∙ ap (λ z. entry_data z c.loop-j.j) c.as_slice.ensures)
    (c.write_entries-note.auto.page ∙ c.loop-j.invariant.0) n' _ h.rules in
    record { done = rw (p.1, p.2) left.done; others = left.others; held = left.held }

pub loop-j-preserved : goal.loop-j-preserved
loop-j-preserved g c =
    let m = g.C.Chip.meaning c.args.chip.now in
    let n = g.C.Chip.meaning c.loop-j.chip in
    let n' = g.C.Chip.meaning c.program.new.self in
    let h = c.in_ok-program.ensures in
    let D = data_pages c.args.geometry.blocks in
    let t = table_of c.args.table.now in
    let whole = c.write_entries-note.auto.page ∙ c.loop-j.invariant.0 in (
      whole,
      filling_more D (omega arith) c.args.active t m c.requires.settled c.requires.free c.loop-j.j n c.loop-j.invariant.1 (omega arith) (omega arith)
          c.entry_page.result.0 c.write_entries-note.result c.write_entries-note.new.page (c.entry_page.ensures ∙ ap (λ a. entry_page_at a c.loop-j.j) c.other.ensures)
          c.write_entries-note.ensures.note (c.write_entries-note.ensures.bytes ∙ ap (λ z. entry_data z c.loop-j.j) c.as_slice.ensures)
          whole n' h.rules,
    )

pub returns : goal.returns
returns g c =
    let m = g.C.Chip.meaning c.args.chip.now in
    let n = g.C.Chip.meaning c.loop-j.chip in
    let n' = g.C.Chip.meaning c.settle_entries.new.chip in
    let h = c.settle_entries.ensures in
    let D = data_pages c.args.geometry.blocks in
    let t = table_of c.args.table.now in
    let all : c.loop-j.j ≡ entry_pages (data_pages c.args.geometry.blocks) = omega arith in
    let done = subst (λ j. Filling D c.args.active t m j n) all c.loop-j.invariant.1 in
    let left = filling_ends D (omega arith) c.args.active t m c.requires.settled c.requires.free n done n' c.settle_entries.result h.rules in
    record { done = left.done; others = left.others; held = left.held }
