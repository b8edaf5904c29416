use Rattle.std.proofs.Common.{◌≡◌, ℕ, ◌<◌, ◌≤◌, false, ◌||◌, length, get_or}
use Rattle.journal.specs.Drops.{in_block}
use Rattle.space.proofs.blanks.Space.free.Given as goal

abbrev pub invariant-loop-i : goal.invariant-loop-i
invariant-loop-i l =
    (length l.blank-items ≡ length l.initial.blank-items)
    × ((k : ℕ) → k < l.i → get_or l.blank-items k false ≡ in_block l.block.0 k || get_or l.initial.blank-items k false)
    × ((k : ℕ) → l.i ≤ k → get_or l.blank-items k false ≡ get_or l.initial.blank-items k false)
