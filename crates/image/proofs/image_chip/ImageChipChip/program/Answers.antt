use Rattle.image.specs.OfChip.{chip_view}
use Rattle.image.proofs.Chipside.{programs_rules}
use Rattle.image.proofs.image_chip.ImageChipChip.program.Goals as goal

pub returns-clause-rules : goal.returns-clause-rules
returns-clause-rules c = programs_rules (chip_view c.args.self.now) (chip_view c.program_frame.new.self) c.program_frame.ensures.whole c.args.page.0 c.args.note c.args.bytes.now c.program_frame.result c.program_frame.ensures.exact
