-- The front of a block of spaces written over with the front of a text.
use Rattle.std.proofs.Common.{◌≡◌, ℕ, ◌-◌, min, List, ◌++◌, length, take, drop, replicate, ap, ◌∙◌, arith}
use Rattle.std.proofs.lemmas.List.{drop-replicate, take_min}

pub filled : (size : ℕ) (text front : List ℕ) (n : ℕ) → n ≡ min size (length text) → front ≡ take n text → front ++ drop n (replicate {A = ℕ} size 32) ≡ take size text ++ replicate (size - length text) 32
filled size text front n is after =
    let rest : size - n ≡ size - length text = omega arith in
    let start : front ≡ take size text = after ∙ ap (λ k. take k text) is ∙ take_min size text in
    rw (start, drop-replicate {X = ℕ} n size 32, rest)
