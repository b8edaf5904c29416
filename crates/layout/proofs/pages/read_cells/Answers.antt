use Rattle.std.proofs.Common.{rules, ◌≡◌, ◌*◌, ◌<◌, length, take, drop, Some, None, arith}
use Rattle.std.proofs.lemmas.Result.{err_from_is_err_and}
use Rattle.layout.specs.Bytes.{Decodes}
use Rattle.layout.proofs.Cellwise.{cell_proper, get_again}
use Rattle.layout.proofs.pages.read_cells.Goals as goal

pub returns-in_err-cell-clause-err : goal.returns-in_err-cell-clause-err
returns-in_err-cell-clause-err g c =
    let none : c.decode.result ≡ None = search rules in
    let not : Decodes g.C.Cell.proper g.C.Cell.bytes (take 8 (drop (8 * c.loop-k.k) c.args.page.now)) None = search rules in
    let p = err_from_is_err_and c.from_residual.result c.from_residual.ensures.1 in
    rw p.1
    (λ xs n ps e.
    let l : c.loop-k.k < length xs = omega arith in
    let t = cell_proper g.C.Cell.bytes g.met.C.Cell.eight g.C.Cell.proper c.args.page.now xs c.loop-k.k e l ps in
    not t.0 t.1 t.2)

pub loop-k-preserved : goal.loop-k-preserved
loop-k-preserved g c =
    let x = c.in_ok-cell.field-0 in
    let some : c.decode.result ≡ Some x = search rules in
    let l : c.loop-k.k < length c.loop-k.cells = omega arith in
    let is : Decodes g.C.Cell.proper g.C.Cell.bytes (take 8 (drop (8 * c.loop-k.k) c.args.page.now)) (Some x) = search rules in
    get_again g.C.Cell.bytes g.met.C.Cell.eight g.C.Cell.proper c.args.page.now c.loop-k.cells c.loop-k.k x l c.loop-k.invariant is.0 is.1
