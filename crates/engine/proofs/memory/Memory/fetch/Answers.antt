use Rattle.std.proofs.lemmas.Result.{err_from_is_err_and}
use Rattle.journal.specs.Notes.{noted, pages_of}
use Rattle.engine.proofs.Fetching.{not_fetched}
use Rattle.engine.proofs.memory.Memory.fetch.Goals as goal

pub returns-in_err-read : goal.returns-in_err-read
returns-in_err-read g c =
    let m = g.C.Chip.meaning c.args.chip.now in
    let m₁ = g.C.Chip.meaning c.read.new.self in
    let journal = c.args.self.now.journal in
    let read = c.in_err-read.ensures in
    let holding = c.requires.holding in
    let p = err_from_is_err_and c.from_residual.result c.from_residual.ensures.1 in
    record {
      fetches = rw (p.1, p.2) (not_fetched (pages_of journal) c.args.address.0 c.args.page.0 m (noted journal) c.requires.held m₁ c.args.self.now.space c.args.buf.now c.read.new.buf c.chip_page.result.0
          c.chip_page.ensures holding.0 holding.1 _ c.requires.whole read.rules);
    }
