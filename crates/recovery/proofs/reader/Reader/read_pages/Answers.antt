use Rattle.std.proofs.Common.{◌≡◌, ◌<◌, refl, ◌∙◌, subst, arith}
use Rattle.std.proofs.lemmas.Result.{err_from_is_err_and}
use Rattle.layout.specs.Geometry.{data_pages, entry_pages}
use Rattle.recovery.specs.Looking.{shown}
use Rattle.recovery.specs.Recovering.{Entered}
use Rattle.recovery.proofs.Lookwise.{quiet_then}
use Rattle.recovery.proofs.Pageful.{reading_none, reading_sofar, reading_more, reading_fails}
use Rattle.recovery.proofs.reader.Reader.read_pages.Goals as goal

pub loop-j-init : goal.loop-j-init
loop-j-init g c = (reading_none _ _ _ _ c.requires.long, refl, refl)

pub read_page-requires : goal.read_page-requires
read_page-requires g c =
    let n = g.C.Chip.meaning c.loop-j.self.chip.now in
    record {
      few = rw c.loop-j.invariant.2 (omega arith);
      sofar = rw c.loop-j.invariant.2 (reading_sofar (data_pages c.args.self.now.geometry.blocks) c.args.area (g.C.Chip.meaning c.args.self.now.chip.now) n n c.loop-j.j c.loop-j.table c.loop-j.invariant.0);
    }

pub returns-in_err-read_page : goal.returns-in_err-read_page
returns-in_err-read_page g c =
    let m = g.C.Chip.meaning c.args.self.now.chip.now in
    let n = g.C.Chip.meaning c.loop-j.self.chip.now in
    let k = g.C.Chip.meaning c.read_page.new.self.chip.now in
    let page = c.in_err-read_page.ensures in
    let p = err_from_is_err_and c.from_residual.result c.from_residual.ensures.1 in
    let few : c.loop-j.j < entry_pages (data_pages c.args.self.now.geometry.blocks) = omega arith in
    record {
      same = (page.same.0 ∙ c.loop-j.invariant.1, page.same.1 ∙ c.loop-j.invariant.2);
      quiet = quiet_then m n k c.loop-j.invariant.0.quiet page.quiet;
      found = rw (p.1, p.2) (reading_fails (data_pages c.args.self.now.geometry.blocks) c.args.area m n k c.loop-j.j c.loop-j.table c.loop-j.invariant.0 _ few (rw c.loop-j.invariant.2 at page.found));
    }

pub loop-j-preserved : goal.loop-j-preserved
loop-j-preserved g c =
    let m = g.C.Chip.meaning c.args.self.now.chip.now in
    let n = g.C.Chip.meaning c.loop-j.self.chip.now in
    let k = g.C.Chip.meaning c.read_page.new.self.chip.now in
    let page = c.in_ok-read_page.ensures in (
      reading_more (data_pages c.args.self.now.geometry.blocks) c.args.area m n k c.loop-j.j c.loop-j.table c.loop-j.invariant.0
          c.read_page.new.table page.quiet page.found.0 (rw c.loop-j.invariant.2 at page.found.1),
      page.same.0 ∙ c.loop-j.invariant.1,
      page.same.1 ∙ c.loop-j.invariant.2,
    )

pub returns : goal.returns
returns g c =
    let e : c.loop-j.j ≡ entry_pages (data_pages c.args.self.now.geometry.blocks) = omega arith in
    record {
      same = (c.loop-j.invariant.1, c.loop-j.invariant.2);
      quiet = c.loop-j.invariant.0.quiet;
      found = (
        c.loop-j.invariant.0.lit (omega arith),
        subst (λ j. Entered (data_pages c.args.self.now.geometry.blocks) (shown (g.C.Chip.meaning c.args.self.now.chip.now)) c.args.area j c.loop-j.table) e c.loop-j.invariant.0.sofar,
      );
    }
