-- The choices that the table makes: a page to write, an erase block to reclaim, an erase block to write back.
use Rattle.std.specs.Prelude.{◌≡◌, ℕ, suc, ◌+◌, ◌-◌, ◌<◌, ◌≤◌, Bool, true, false, cond, ◌&&◌, [], ◌∷◌, Some, None, Option, ◌==◌, nat_eq, nat_le}
use Rattle.layout.specs.declared.entries.Entry.{Entry}
use Rattle.device.specs.Chips.{block_of, data_page_at}
use Rattle.table.specs.Tables.{Table, has_mark, is_dirty}

-- A page, going round from the cursor: how many steps it is away, among so many pages
abbrev pub steps_to : ℕ → ℕ → ℕ → ℕ
steps_to pages cursor i = cond (nat_le cursor i) (i - cursor) (i + pages - cursor)

-- i is the first page at or after the cursor, going round, that the test finds
pub record FirstRound (test : ℕ → Bool) (pages cursor i : ℕ) : Type 0 where
  pub inside : i < pages
  pub found : test i ≡ true
  pub before : (j : ℕ) → j < pages → steps_to pages cursor j < steps_to pages cursor i → test j ≡ false

abbrev pub FindsRound : (ℕ → Bool) → ℕ → ℕ → Option ℕ → Type 0
FindsRound test pages cursor None = (j : ℕ) → j < pages → test j ≡ false
FindsRound test pages cursor (Some i) = FirstRound test pages cursor i

-- how many pages of an erase block have entries that the test finds; the entries are those of the data pages from i on
abbrev pub tally : (Entry → Bool) → Table → ℕ → ℕ → ℕ
tally test [] i b = 0
tally test (e ∷ es) i b = cond (block_of (data_page_at i) == b && test e) 1 0 + tally test es (suc i) b

abbrev pub marked_in : Table → ℕ → ℕ
marked_in t b = tally (λ e. has_mark e.mark) t 0 b

abbrev pub dirty_in : Table → ℕ → ℕ
dirty_in t b = tally (λ e. is_dirty e.mark) t 0 b

-- Of the erase blocks from `first` up to `end` that qualify, b costs least, and it is the lowest of those that cost as little.
pub record Cheapest (qualifies : ℕ → Bool) (cost : ℕ → ℕ) (first end b : ℕ) : Type 0 where
  pub from : first ≤ b
  pub below : b < end
  pub fit : qualifies b ≡ true
  pub least : (c : ℕ) → first ≤ c → c < end → qualifies c ≡ true → cost b ≤ cost c
  pub lowest : (c : ℕ) → first ≤ c → c < b → qualifies c ≡ true → cost b < cost c

abbrev pub Chooses : (ℕ → Bool) → (ℕ → ℕ) → ℕ → ℕ → Option ℕ → Type 0
Chooses qualifies cost first end None = (c : ℕ) → first ≤ c → c < end → qualifies c ≡ false
Chooses qualifies cost first end (Some b) = Cheapest qualifies cost first end b

-- the block to reclaim: of the data erase blocks without a dirty page, one with the fewest marked pages
abbrev pub Victim : Table → ℕ → Option ℕ → Type 0
Victim t blocks r = Chooses (λ b. nat_eq (dirty_in t b) 0) (marked_in t) 8 blocks r

-- the block to write back: the data erase block with the fewest dirty pages
abbrev pub ToWriteBack : Table → ℕ → Option ℕ → Type 0
ToWriteBack t blocks r = Chooses (λ b. true) (dirty_in t) 8 blocks r
