-- The power-on by the rules, from what it does exactly.
use Rattle.image.specs.OfDisk.{disk_view}
use Rattle.image.proofs.Diskside.{block_powers_rules}
use Rattle.image.proofs.image_disk.ImageDiskDisk.power_on.Goals as goal

pub returns-clause-rules : goal.returns-clause-rules
returns-clause-rules c = block_powers_rules (disk_view c.args.self.now) (disk_view c.cut_and_power.new.self) c.cut_and_power.ensures.exact
