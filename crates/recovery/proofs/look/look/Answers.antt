use Rattle.recovery.proofs.Lookwise.{look_lost}
use Rattle.recovery.proofs.look.look.Goals as goal

pub returns-in_default : goal.returns-in_default
returns-in_default g c =
    let t = look_lost (g.C.Chip.meaning c.args.chip.now) (g.C.Chip.meaning c.read.new.self) c.args.page.0 c.args.buf.now c.read.new.buf
    c.in-Err.fault c.requires.inside c.requires.whole c.in-Err.ensures.rules c.in_default.not-Torn c.in_default.not-Blank in
    record { quiet = t.0; saw = t.1 }
