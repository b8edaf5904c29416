use Rattle.image.specs.OfChip.{chip_view}
use Rattle.image.proofs.Chipside.{syncs_rules}
use Rattle.image.proofs.image_chip.ImageChipChip.sync.Goals as goal

pub returns-clause-rules : goal.returns-clause-rules
returns-clause-rules c = syncs_rules (chip_view c.args.self.now) (chip_view c.settle_frames.new.self) c.settle_frames.ensures.whole c.settle_frames.result c.settle_frames.ensures.exact
