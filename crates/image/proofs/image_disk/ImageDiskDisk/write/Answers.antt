-- The write by the rules, from what it does exactly.
use Rattle.image.specs.OfDisk.{disk_view}
use Rattle.image.proofs.Diskside.{block_writes_rules}
use Rattle.image.proofs.image_disk.ImageDiskDisk.write.Goals as goal

pub returns-clause-rules : goal.returns-clause-rules
returns-clause-rules c = block_writes_rules (disk_view c.args.self.now) (disk_view c.write_frame.new.self) c.args.block.0 c.args.bytes.now c.write_frame.result c.write_frame.ensures.exact
