-- What the journal keeps in memory, and what a commit makes of it and of the chip's pages.
use Rattle.std.specs.Prelude.{◌≡◌, ℕ, suc, ◌+◌, ◌-◌, ◌%◌, Bool, cond, ◌&&◌, List, [], ◌∷◌, ◌++◌, length, Some, ◌==◌, nat_le, nat_lt}
use Rattle.device.specs.Chips.{State}
use Rattle.device.specs.Chips.State.{blank}
use Rattle.layout.specs.declared.areas.Area.{Area}
use Rattle.layout.specs.declared.areas.Area.TheVariants.{One}
use Rattle.layout.specs.declared.records.Record.{Record}
use Rattle.layout.specs.Geometry.{data_pages, entry_pages, log_pages, first_page, other_area, log_page_at}
use Rattle.layout.specs.Laws.{entry_page, trailer_page, log_page}
use Rattle.table.specs.Tables.{Table, apply, empty_table}
use Rattle.table.specs.Views.{table_of}
use Rattle.journal.specs.declared.memory.Journal.{Journal}

-- the table, the records staged since the last commit, the active area with its number, and its next log page
pub record Noted : Type 0 where
  pub table : Table
  pub staged : List Record
  pub area : Area
  pub number : ℕ
  pub next : ℕ

abbrev pub noted : Journal → Noted
noted j = record { table = table_of j.table; staged = j.staged.items; area = j.area; number = j.number; next = j.next }

-- the number of data pages
abbrev pub pages_of : Journal → ℕ
pages_of j = data_pages j.geometry.blocks

-- A record is staged in the moment in which the table changes.
abbrev pub staging : Noted → Table → Record → Noted
staging v t r = record { table = t; staged = v.staged ++ (r ∷ []); area = v.area; number = v.number; next = v.next }

-- the record fits the table in memory
abbrev pub Fits : Noted → Record → Type 0
Fits v r = (t : Table) × (apply v.table r ≡ Some t)

-- w is v with the record staged
abbrev pub Stages : Noted → Record → Noted → Type 0
Stages v r w = (t : Table) → apply v.table r ≡ Some t → w ≡ staging v t r

-- The staged records go to the next log page.

abbrev pub logged_pages : ℕ → Noted → (ℕ → State) → ℕ → State
logged_pages D v pages p = cond (p == log_page_at D v.area v.next) (log_page v.staged) (pages p)

abbrev pub logged : Noted → Noted
logged v = record { table = v.table; staged = []; area = v.area; number = v.number; next = suc v.next }

-- A checkpoint fills an area: the entry pages, the trailer, and a blank log.

abbrev pub in_area : Area → ℕ → Bool
in_area area p = nat_le (first_page area) p && nat_lt p (first_page area + 32)

-- what the page at an offset in the area holds
abbrev pub checkpoint_page : ℕ → Area → ℕ → Table → ℕ → State
checkpoint_page D area n t k = cond (nat_lt k (entry_pages D)) (entry_page t k) (cond (k == entry_pages D) (trailer_page area D n) blank)

abbrev pub checkpoint_pages : ℕ → Area → ℕ → Table → (ℕ → State) → ℕ → State
checkpoint_pages D area n t pages p = cond (in_area area p) (checkpoint_page D area n t (p - first_page area)) (pages p)

abbrev pub next_number : ℕ → ℕ
next_number n = (n + 1) % 3

abbrev pub checkpointed : Noted → Noted
checkpointed v = record { table = v.table; staged = []; area = other_area v.area; number = next_number v.number; next = 0 }

-- A commit: nothing with no record staged; the next log page, or a checkpoint in the other area where no log page is left.

abbrev pub committed_pages : ℕ → Noted → (ℕ → State) → ℕ → State
committed_pages D v pages =
    cond (length v.staged == 0) pages
    (cond (nat_lt v.next (log_pages D)) (logged_pages D v pages)
    (checkpoint_pages D (other_area v.area) (next_number v.number) v.table pages))

abbrev pub committed : ℕ → Noted → Noted
committed D v = cond (length v.staged == 0) v (cond (nat_lt v.next (log_pages D)) (logged v) (checkpointed v))

-- What a form ends with: the checkpoint of an empty table in area one, with number 0, and every other page blank.

abbrev pub formed_pages : ℕ → ℕ → State
formed_pages D = checkpoint_pages D One 0 (empty_table D) (λ p. blank)

abbrev pub formed : ℕ → Noted
formed D = record { table = empty_table D; staged = []; area = One; number = 0; next = 0 }
