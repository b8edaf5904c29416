-- The row of the other area's four blocks was erased.
use Rattle.std.proofs.Common.{ap, ◌∙◌, arith}
use Rattle.device.specs.Chips.{block_of}
use Rattle.layout.specs.Geometry.{first_page}
use Rattle.journal.proofs.Rows.{cleared_row}
use Rattle.journal.proofs.areas.clear_other.Goals as goal

pub returns : goal.returns
returns g c =
    let m = g.C.Chip.meaning c.args.chip.now in
    let n = g.C.Chip.meaning c.erase_all.new.chip in
    let first = c.erase_block-first.ensures ∙ ap block_of (c.first.ensures ∙ ap first_page c.other.ensures) in
    let left = cleared_row c.args.active m c.requires.settled c.requires.large c.erase_all.result n _ _ c.requires.on first (omega arith) c.erase_all.ensures in
    record { done = left.done; others = left.others; held = left.held }
