-- What the chip's pages, the journal and the cursor are together, and what a commit and a reclaim make of them.
use Rattle.std.specs.Prelude.{◌≡◌, ℕ, ◌+◌, ◌%◌, ◌<◌, Bool, true, false, cond, List, length, ◌==◌, slice_index_or}
use Rattle.device.specs.Chips.{State, Pages, block_of, data_page_at}
use Rattle.device.specs.Chips.State.{blank, torn, held}
use Rattle.recovery.specs.Looking.{shown}
use Rattle.layout.specs.Pages.{data_note}
use Rattle.journal.specs.Notes.{Noted, committed_pages, committed}
use Rattle.journal.specs.Drops.{dropping}
use Rattle.space.specs.declared.blanks.Space.{Space}

-- what each page reads, what the journal keeps, and the data page from which the next one is looked for
pub record World : Type 0 where
  pub pages : ℕ → State
  pub noted : Noted
  pub cursor : ℕ

abbrev pub world : Pages → Noted → Space → World
world m v sp = record { pages = shown m; noted = v; cursor = sp.cursor.0 }

abbrev pub is_blank : State → Bool
is_blank blank = true
is_blank torn = false
is_blank (held note bytes) = false

-- whether a data page is blank
abbrev pub blank_page : (ℕ → State) → ℕ → Bool
blank_page pages i = is_blank (pages (data_page_at i))

-- what is remembered of each data page: whether it is blank
abbrev pub flags : Space → List Bool
flags sp = sp.blank.items

-- the number of data pages
abbrev pub data_page_count : Space → ℕ
data_page_count sp = length (flags sp)

-- the memory agrees with the chip
pub record Fits (D : ℕ) (m : Pages) (sp : Space) : Type 0 where
  pub long : data_page_count sp ≡ D
  pub each : (i : ℕ) → i < D → slice_index_or (flags sp) i false ≡ blank_page (shown m) i

-- A commit.
abbrev pub committing : ℕ → World → World
committing D w = record { pages = committed_pages D w.noted w.pages; noted = committed D w.noted; cursor = w.cursor }

-- A reclaim: commit, the drops of the marked pages, commit, erase.

abbrev pub dropped : ℕ → World → World
dropped b w = record { pages = w.pages; noted = dropping b w.noted; cursor = w.cursor }

abbrev pub erased_pages : ℕ → (ℕ → State) → ℕ → State
erased_pages b pages p = cond (block_of p == b) blank (pages p)

abbrev pub wiped : ℕ → World → World
wiped b w = record { pages = erased_pages b w.pages; noted = w.noted; cursor = w.cursor }

abbrev pub reclaimed : ℕ → ℕ → World → World
reclaimed D b w = wiped b (committing D (dropped b (committing D w)))

-- A data page is programmed, and the cursor moves past it, going round.

abbrev pub past : ℕ → ℕ → ℕ
past D i = (i + 1) % D

abbrev pub placed_pages : ℕ → ℕ → List ℕ → (ℕ → State) → ℕ → State
placed_pages i a bytes pages p = cond (p == data_page_at i) (held (data_note a) bytes) (pages p)

abbrev pub placed : ℕ → ℕ → ℕ → List ℕ → World → World
placed D i a bytes w = record { pages = placed_pages i a bytes w.pages; noted = w.noted; cursor = past D i }
