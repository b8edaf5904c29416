use Rattle.std.proofs.Common.{rules, ◌≡◌, ◌-◌, ◌*◌, ◌≤◌, length, drop, sym, ◌∙◌, subst, arith}
use native.Mathlib.Nat.{min-le_left}
use Rattle.std.proofs.lemmas.Result.{err_from_is_err_and}
use Rattle.std.proofs.lemmas.List.{length-take-le, length-drop}
use Rattle.std.specs.List.{AllByRecursion}
use Rattle.layout.specs.Entries.{entry_bytes, ProperEntry}
use Rattle.layout.specs.Pages.{cells_page, entry_note}
use Rattle.layout.proofs.Reading.{entries_got, entries_not}
use Rattle.layout.proofs.checkpoints.read_entries.Goals as goal

pub returns-in_err-read_cells : goal.returns-in_err-read_cells
returns-in_err-read_cells c =
    let p = err_from_is_err_and c.from_residual.result c.from_residual.ensures.1 in
    let table = c.args.table.now in
    let end = c.part_end-end.result in
    let size = c.part_end-end.ensures.size in
    let short : end - 64 * c.args.j ≤ 64 = subst (λ z. z ≤ 64) (sym size) (min-le_left 64 (length table - 64 * c.args.j)) in
    rw p.1
    (entries_not c.args.note c.args.page.now c.args.j table end c.requires.inside c.part_end-end.ensures.within size
    (λ xs n ps e. c.in_err-read_cells.ensures.err xs (n ∙ sym (length-take-le (end - 64 * c.args.j) _ short)) ps e) _)

pub returns : goal.returns
returns c =
    let table = c.args.table.now in
    let end = c.part_end-end.result in
    let part = c.copy_from_slice.new.self in
    let d = length-drop (64 * c.args.j) table in
    let long : length part ≡ end - 64 * c.args.j = c.copy_from_slice.auto.self ∙ length-take-le (end - 64 * c.args.j) (drop (64 * c.args.j) table) (omega arith) in
    let is : c.args.note ≡ entry_note c.args.j = search rules in
    let proper : AllByRecursion ProperEntry part = search rules in
    let page : c.args.page.now ≡ cells_page entry_bytes part = search rules in
    entries_got c.args.note c.args.page.now c.args.j table end c.requires.inside c.part_end-end.ensures.within c.part_end-end.ensures.size part long is proper page
