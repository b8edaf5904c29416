-- The row of all the chip's blocks was erased.
use Rattle.std.proofs.Common.{arith}
use Rattle.journal.proofs.Rows.{wiped_row}
use Rattle.journal.proofs.forming.wipe.Goals as goal

pub returns : goal.returns
returns g c = record {
  done = wiped_row (g.C.Chip.meaning c.args.chip.now) c.requires.settled c.erase_all.result (g.C.Chip.meaning c.erase_all.new.chip) _ c.requires.on
      (omega (arith, c.requires.fits)) c.erase_all.ensures;
}
