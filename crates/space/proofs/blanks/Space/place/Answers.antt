use Rattle.std.proofs.lemmas.Result.{err_from_is_err_and}
use Rattle.journal.specs.Notes.{noted, pages_of}
use Rattle.space.proofs.Placing.{places_lost, places_made}
use Rattle.space.proofs.blanks.Space.place.Goals as goal

pub returns-in_err-program : goal.returns-in_err-program
returns-in_err-program g c =
    let m = g.C.Chip.meaning c.args.chip.now in
    let m' = g.C.Chip.meaning c.program.new.self in
    let h = c.in_err-program.ensures in
    let p = err_from_is_err_and c.from_residual.result c.from_residual.ensures.1 in
    let (t, kept) = c.requires.keeps in
    record {
      places = rw (p.1, p.2) (places_lost (pages_of c.args.journal.now) c.args.page.0 c.args.address.0 c.chip_page.result.0 c.note_of_data.result
          c.args.bytes.now m m' (noted c.args.journal.now) c.args.self.now c.chip_page.ensures c.note_of_data.ensures c.requires.inside c.requires.free
          _ t kept c.requires.whole h.rules c.args.self.now);
    }

pub returns : goal.returns
returns g c =
    let m = g.C.Chip.meaning c.args.chip.now in
    let m' = g.C.Chip.meaning c.program.new.self in
    let h = c.in_ok-program.ensures in
    let (t, kept) = c.requires.keeps in
    record {
      places = places_made (pages_of c.args.journal.now) c.args.page.0 c.args.address.0 c.chip_page.result.0 c.note_of_data.result
          c.args.bytes.now m m' (noted c.args.journal.now) c.args.self.now c.chip_page.ensures c.note_of_data.ensures c.requires.inside c.requires.free
          t kept h.rules c.take.new.self c.take.ensures.used c.take.ensures.past;
    }
