use Rattle.image.specs.OfChip.{chip_view}
use Rattle.image.proofs.Chipside.{powers_rules}
use Rattle.image.proofs.image_chip.ImageChipChip.power_on.Goals as goal

pub returns-clause-rules : goal.returns-clause-rules
returns-clause-rules c = powers_rules (chip_view c.args.self.now) (chip_view c.cut_and_power.new.self) c.cut_and_power.ensures.whole c.cut_and_power.ensures.exact
