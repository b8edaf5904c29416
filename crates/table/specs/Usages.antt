-- What the pages of an erase block are used for, and the first page from a place on.
use Rattle.std.specs.Prelude.{◌≡◌, ℕ, ◌+◌, ◌<◌, ◌≤◌, Bool, true, false, cond, List, Some, None, Option, slice_index_or}
use Rattle.layout.specs.declared.entries.Mark.{Mark}
use Rattle.table.specs.declared.choices.Usage.{Usage}
use Rattle.table.specs.Tables.{Table, has_mark, is_dirty}
use Rattle.table.specs.Choices.{marked_in, dirty_in}

abbrev pub usage : ℕ → ℕ → Usage
usage marked dirty = record { marked = marked; dirty = dirty }

abbrev pub usage_at : List Usage → ℕ → Usage
usage_at us b = slice_index_or us b (usage 0 0)

-- the marked and the dirty pages of an erase block
abbrev pub usage_in : Table → ℕ → Usage
usage_in t b = usage (marked_in t b) (dirty_in t b)

-- and one page more
abbrev pub one_more : Usage → Mark → Usage
one_more u mark = usage (u.marked + cond (has_mark mark) 1 0) (u.dirty + cond (is_dirty mark) 1 0)

-- the first page from `low` on that the test finds
pub record FirstFrom (test : ℕ → Bool) (pages low i : ℕ) : Type 0 where
  pub inside : i < pages
  pub from : low ≤ i
  pub found : test i ≡ true
  pub before : (j : ℕ) → low ≤ j → j < i → test j ≡ false

abbrev pub FindsFrom : (ℕ → Bool) → ℕ → ℕ → Option ℕ → Type 0
FindsFrom test pages low None = (j : ℕ) → low ≤ j → j < pages → test j ≡ false
FindsFrom test pages low (Some i) = FirstFrom test pages low i
