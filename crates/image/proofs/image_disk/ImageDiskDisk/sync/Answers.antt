-- The sync by the rules, from what it does exactly.
use Rattle.image.specs.OfDisk.{disk_view}
use Rattle.image.proofs.Diskside.{block_syncs_rules}
use Rattle.image.proofs.image_disk.ImageDiskDisk.sync.Goals as goal

pub returns-clause-rules : goal.returns-clause-rules
returns-clause-rules c = block_syncs_rules (disk_view c.args.self.now) (disk_view c.settle_frames.new.self) c.settle_frames.result c.settle_frames.ensures.exact
