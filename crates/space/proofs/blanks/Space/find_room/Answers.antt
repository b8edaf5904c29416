use Rattle.std.proofs.Common.{Some}
use Rattle.std.proofs.lemmas.Result.{err_from_is_err_and}
use Rattle.table.specs.Choices.{Victim}
use Rattle.table.specs.Views.{table_of}
use Rattle.journal.specs.Notes.{noted, pages_of}
use Rattle.space.proofs.Rooming.{room_there, victim_is, room_fails, room_made}
use Rattle.space.proofs.blanks.Space.find_room.Given as given
use Rattle.space.proofs.blanks.Space.find_room.Goals as goal
use Rattle.space.proofs.blanks.Space.find_room.Goals.{In-Some-victim}

-- the erase block is the victim by what the journal notes
chosen : (g : given.Over) (c : goal.In-Some-victim g) → Victim (noted c.args.journal.now).table c.args.journal.now.geometry.blocks (Some c.in-Some-victim.block.0)
chosen g c =
    victim_is (table_of c.table.result.now) (noted c.args.journal.now).table c.geometry.result c.args.journal.now.geometry (Some c.in-Some-victim.block.0)
    c.table.ensures c.geometry.ensures c.in-Some-victim.ensures

pub returns-in_err-reclaim-clause-finds : goal.returns-in_err-reclaim-clause-finds
returns-in_err-reclaim-clause-finds g c =
    let j = c.args.journal.now in
    let p = err_from_is_err_and c.from_residual.result c.from_residual.ensures.1 in
    rw (p.1, p.2) (room_fails j.geometry.blocks c.in-Some-victim.block.0 (g.C.Chip.meaning c.args.chip.now) (noted j) c.args.self.now c.requires.keeps
    c.in_default.ensures (chosen g (goal.at.returns-in_err-reclaim-clause-finds g c).In-Some-victim) c.in_err-reclaim.field-0.0
    (g.C.Chip.meaning c.reclaim.new.chip) (noted c.reclaim.new.journal) c.reclaim.new.self c.in_err-reclaim.ensures.reclaims)

pub returns-in-Some-clause-finds : goal.returns-in-Some-clause-finds
returns-in-Some-clause-finds g c =
    let j = c.args.journal.now in
    room_there (pages_of j) j.geometry.blocks (g.C.Chip.meaning c.args.chip.now) (noted j) c.args.self.now c.in-Some.page c.requires.keeps c.in-Some.ensures

pub returns-clause-finds : goal.returns-clause-finds
returns-clause-finds g c =
    let j = c.args.journal.now in
    room_made j.geometry.blocks c.in-Some-victim.block.0 (g.C.Chip.meaning c.args.chip.now) (noted j) c.args.self.now c.requires.keeps
    c.in_default.ensures (chosen g (goal.at.returns-clause-finds g c).In-Some-victim)
    (g.C.Chip.meaning c.reclaim.new.chip) (noted c.reclaim.new.journal) c.reclaim.new.self c.in_ok-reclaim.ensures.reclaims c.first-2.result c.first-2.ensures
