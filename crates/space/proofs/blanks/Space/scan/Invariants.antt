use Rattle.std.proofs.Common.{◌≡◌, true, length}
use Rattle.recovery.specs.Looking.{Quiet}
use Rattle.space.proofs.Flagging.{Told}
use Rattle.space.proofs.blanks.Space.scan.Given as goal

abbrev pub invariant-loop-i : goal.invariant-loop-i
invariant-loop-i g l =
    ((g.C.Chip.meaning l.chip).on ≡ true) × Quiet (g.C.Chip.meaning l.initial.chip) (g.C.Chip.meaning l.chip)
    × (length l.blank.items ≡ l.i)
    × Told (g.C.Chip.meaning l.initial.chip) l.i l.blank.items
