-- What the table in memory means, and what its calls answer, over the table as a list.
use Rattle.std.specs.Prelude.{◌≡◌, ℕ, ◌+◌, ◌<◌, Bool, true, false, cond, not, ◌&&◌, List, map, length, Some, None, Ok, Err, Option, Result, nat_lt}
use Rattle.std.specs.List.{range_with_len}
use Rattle.device.specs.declared.places.DataPage.{DataPage}
use Rattle.device.specs.declared.places.EraseBlock.{EraseBlock}
use Rattle.layout.specs.declared.entries.Entry.{Entry}
use Rattle.layout.specs.declared.entries.Mark.{Mark}
use Rattle.layout.specs.declared.entries.Mark.TheVariants.{Empty, Clean, Dirty}
use Rattle.layout.specs.declared.records.Record.{Record}
use Rattle.layout.specs.Entries.{mark_number}
use Rattle.table.specs.declared.changes.Breach.{Breach}
use Rattle.table.specs.declared.mapping.MappingTable.{MappingTable}
use Rattle.table.specs.Tables.{Table, entry, empty, entry_at, has_mark, marked_at, holds, held, mark_of, entered, apply}

abbrev pub table_of : MappingTable → Table
table_of m = m.entries.items

-- the page p of the table holds the address, and no other does
pub record AloneAt (t : Table) (a p : ℕ) : Type 0 where
  pub inside : p < length t
  pub here : holds a (entry_at t p) ≡ true
  pub alone : (j : ℕ) → holds a (entry_at t j) ≡ true → j ≡ p

-- the page that holds the address, if one does
abbrev pub Finds : Table → ℕ → Option DataPage → Type 0
Finds t a None = held t a ≡ false
Finds t a (Some p) = AloneAt t a p.0

-- the numbers of the marks of n addresses from the first on
abbrev pub marks_from : Table → ℕ → ℕ → List ℕ
marks_from t first n = map (λ k. mark_number (mark_of t (first + k))) (range_with_len 0 n)

-- the entry of a page with this mark for an address, which it has only with a mark
abbrev pub entry_with : Mark → ℕ → Entry
entry_with Empty a = empty
entry_with Clean a = entry Clean a
entry_with Dirty a = entry Dirty a

-- the page that holds the address has this mark then
abbrev pub remarked_entry : Mark → ℕ → Entry → Entry
remarked_entry mark a e = cond (holds a e) (entry_with mark a) e

abbrev pub remarked : Table → Mark → ℕ → Table
remarked t mark a = map (remarked_entry mark a) t

-- a page enters an address only with a mark, if it is in the table and unmarked
abbrev pub may_enter : Table → ℕ → Mark → Bool
may_enter t p mark = has_mark mark && (nat_lt p (length t) && not (marked_at t p))

abbrev pub enters : Table → ℕ → Mark → ℕ → Option Table
enters t p mark a = cond (may_enter t p mark) (Some (entered t p mark a)) None

-- The table is what was wanted, if that is a table and the answer is Ok; else the answer is a breach, and the table is as it was.
abbrev pub Turns : Table → Option Table → Result (Unit {0}) Breach → Table → Type 0
Turns t wanted (Ok x) u = wanted ≡ Some u
Turns t wanted (Err x) u = (wanted ≡ None) × (u ≡ t)

-- the same of a record
abbrev pub Applies : Table → Record → Result (Unit {0}) Breach → Table → Type 0
Applies t r x u = Turns t (apply t r) x u

-- places as numbers
abbrev pub page_number : Option DataPage → Option ℕ
page_number None = None
page_number (Some p) = Some p.0

abbrev pub block_number : Option EraseBlock → Option ℕ
block_number None = None
block_number (Some b) = Some b.0
