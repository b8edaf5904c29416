use Rattle.std.proofs.Common.{◌≡◌, ◌*◌, take}
use Rattle.std.specs.List.{flat_map, AllByRecursion}
use Rattle.layout.proofs.pages.read_cells.Given as goal

abbrev pub invariant-loop-k : goal.invariant-loop-k
invariant-loop-k g l = AllByRecursion g.C.Cell.proper (take l.k l.cells) × (take (8 * l.k) l.page ≡ flat_map g.C.Cell.bytes (take l.k l.cells))
