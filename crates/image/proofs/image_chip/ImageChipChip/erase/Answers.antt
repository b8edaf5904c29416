use Rattle.image.specs.OfChip.{chip_view}
use Rattle.image.proofs.Chipside.{erases_rules}
use Rattle.image.proofs.image_chip.ImageChipChip.erase.Goals as goal

pub returns-clause-rules : goal.returns-clause-rules
returns-clause-rules c = erases_rules (chip_view c.args.self.now) (chip_view c.erase_frames.new.self) c.erase_frames.ensures.whole c.args.block.0 c.erase_frames.result c.erase_frames.ensures.exact
