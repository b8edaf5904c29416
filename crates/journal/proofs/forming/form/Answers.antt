use Rattle.std.proofs.Common.{length, sym, ap, ◌∙◌, subst, arith}
use lib.ListN.{length-replicate}
use Rattle.layout.specs.Geometry.{data_pages}
use Rattle.layout.specs.declared.areas.Area.TheVariants.{Two}
use Rattle.table.specs.Tables.{empty}
use Rattle.recovery.specs.Looking.{shown}
use Rattle.journal.specs.Steps.{Lands, with_entries}
use Rattle.journal.proofs.Formed.{all_formed, noted_formed, first_area}
use Rattle.journal.proofs.forming.form.Goals as goal

pub fill_other-requires : goal.fill_other-requires
fill_other-requires g c =
    let wiped = c.in_ok-wipe.ensures in
    record {
      on = wiped.done.power;
      fits = wiped.done.size ∙ c.requires.fits;
      long = ap length c.empty-table.ensures ∙ length-replicate (data_pages c.args.geometry.blocks) empty;
      settled = wiped.done.settled_all;
      free = λ p h. wiped.done.blanks p (omega (arith, first_area p h, c.requires.fits));
    }

pub returns : goal.returns
returns g c =
    let D = data_pages c.args.geometry.blocks in
    let m = g.C.Chip.meaning c.args.chip.now in
    let m₁ = g.C.Chip.meaning c.wipe.new.chip in
    let m₂ = g.C.Chip.meaning c.fill_other.new.chip in
    let m₃ = g.C.Chip.meaning c.close_other.new.chip in
    let one = c.in_ok-wipe.ensures in
    let two = c.in_ok-fill_other.ensures in
    let three = c.in_ok-close_other.ensures in
    let filled = subst (λ t. Lands m₁ (with_entries D Two t (shown m₁)) m₂) c.empty-table.ensures two.done in
    record {
      formed = (c.recovered.ensures.size, all_formed D m m₁ m₂ m₃ (omega (arith, c.requires.fits)) (omega (arith, c.requires.fits)) (ap data_pages (sym c.requires.fits)) one.done filled three.done _ (c.recovered.ensures.noted ∙ noted_formed D _ c.empty-table.ensures));
    }
