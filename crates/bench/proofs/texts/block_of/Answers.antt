-- As much of the text as there is room for, and the spaces behind it.
use Rattle.std.proofs.Common.{◌∙◌, ap, take}
use Rattle.bench.proofs.Filling.{filled}
use Rattle.bench.proofs.texts.block_of.Goals as goal

pub returns : goal.returns
returns c = filled 512 c.args.text.now c.copy_from_slice.new.self c.min-len.result c.min-len.ensures (c.copy_from_slice.ensures.after ∙ ap (take c.min-len.result) c.as_bytes.ensures.value)
