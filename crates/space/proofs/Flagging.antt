-- The flags of the data pages, each told by a look at its page.
use Rattle.std.proofs.Common.{◌≡◌, ℕ, ◌+◌, ◌<◌, Bool, false, List, [], ◌∷◌, ◌++◌, length, get_or, ◌∙◌, subst, below_more}
use Rattle.std.proofs.Math.Seq.{get_or-append_seam}
use Rattle.std.proofs.lemmas.List.{get_or_append_left}
use Rattle.device.specs.Chips.{Pages}
use Rattle.recovery.specs.Looking.{shown}
use Rattle.space.specs.Worlds.{blank_page}

-- The flags of the first i pages tell which of them are blank.
abbrev pub Told : Pages → ℕ → List Bool → Type 0
Told m i xs = (k : ℕ) → k < i → get_or xs k false ≡ blank_page (shown m) k

-- one page more was looked at
pub told_more : (m : Pages) (i : ℕ) (xs : List Bool) (b : Bool) (ys : List Bool) → ys ≡ xs ++ b ∷ [] → length xs ≡ i → Told m i xs
    → b ≡ blank_page (shown m) i → Told m (i + 1) ys
told_more m i xs b ys pushed long h told =
    below_more _ _
    (λ k l. rw pushed (get_or_append_left xs (b ∷ []) false k (rw long l) ∙ h k l))
    (rw pushed (subst (λ n. get_or (xs ++ b ∷ []) n false ≡ b) long (get_or-append_seam xs b [] false) ∙ told))
