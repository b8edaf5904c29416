use Rattle.std.proofs.Common.{◌≡◌, ◌-◌, ◌*◌, ◌++◌, take, replicate}
use Rattle.std.specs.List.{flat_map}
use Rattle.layout.proofs.pages.page_of.Given as goal

abbrev pub invariant-loop-k : goal.invariant-loop-k
invariant-loop-k g l = l.page ≡ flat_map g.C.Cell.bytes (take l.k l.cells) ++ replicate (512 - 8 * l.k) 0
