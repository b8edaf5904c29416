-- A text in the 512 bytes of a block.
use Rattle.std.specs.Prelude.{ℕ, ◌-◌, List, ◌++◌, length, take, replicate}

-- as much of the text as there is room for, and then spaces
abbrev pub in_block : List ℕ → List ℕ
in_block text = take 512 text ++ replicate (512 - length text) 32
