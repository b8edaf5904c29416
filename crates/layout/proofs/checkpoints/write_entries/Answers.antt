use Rattle.std.proofs.Common.{◌*◌, ap, ◌∙◌}
use Rattle.layout.specs.Entries.{entry_bytes}
use Rattle.layout.specs.Pages.{cells_page}
use Rattle.layout.proofs.Partwise.{part_is}
use Rattle.layout.proofs.checkpoints.write_entries.Goals as goal

pub returns-clause-bytes : goal.returns-clause-bytes
returns-clause-bytes c =
    c.copy_from_slice.ensures.after ∙ c.page_of.ensures
    ∙ ap (cells_page entry_bytes) (part_is c.args.table.now (64 * c.args.j) c.part_end-end.result c.requires.inside c.part_end-end.ensures.within c.part_end-end.ensures.size)
