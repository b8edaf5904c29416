-- The mapping table as a list with an entry for each data page, and what each record makes of it.
use Rattle.std.specs.Prelude.{◌≡◌, ℕ, Bool, true, false, cond, not, ◌&&◌, ◌||◌, List, [], ◌∷◌, map, length, replicate, Some, None, Option, ◌==◌, nat_lt, slice_index_or, slice_set}
use Rattle.std.specs.List.{AllByRecursion}
use Rattle.layout.specs.declared.entries.Entry.{Entry}
use Rattle.layout.specs.declared.entries.Mark.{Mark}
use Rattle.layout.specs.declared.entries.Mark.TheVariants.{Empty, Clean, Dirty}
use Rattle.layout.specs.declared.records.Record.{Record}
use Rattle.layout.specs.declared.records.Record.TheVariants.{PutClean, PutDirty, Drop, MarkClean}
use Rattle.layout.specs.Entries.{ProperEntry}

abbrev pub Table : Type 0
Table = List Entry

abbrev pub entry : Mark → ℕ → Entry
entry mark a = record { mark = mark; address = record { 0 = a } }

-- the entry of a page without a mark
abbrev pub empty : Entry
empty = entry Empty 0

abbrev pub empty_table : ℕ → Table
empty_table pages = replicate pages empty

abbrev pub has_mark : Mark → Bool
has_mark Empty = false
has_mark Clean = true
has_mark Dirty = true

abbrev pub is_dirty : Mark → Bool
is_dirty Empty = false
is_dirty Clean = false
is_dirty Dirty = true

-- the entry of a data page; past the table there is no mark
abbrev pub entry_at : Table → ℕ → Entry
entry_at t i = slice_index_or t i empty

abbrev pub marked_at : Table → ℕ → Bool
marked_at t i = has_mark (entry_at t i).mark

-- whether the entry holds the address
abbrev pub holds : ℕ → Entry → Bool
holds a e = has_mark e.mark && e.address.0 == a

-- whether some page holds the address
abbrev pub held : Table → ℕ → Bool
held [] a = false
held (e ∷ es) a = holds a e || held es a

-- the mark of an address: that of the page that holds it, else Empty
abbrev pub mark_of : Table → ℕ → Mark
mark_of [] a = Empty
mark_of (e ∷ es) a = cond (holds a e) e.mark (mark_of es a)

-- the page that held the address is emptied
abbrev pub emptied : ℕ → Entry → Entry
emptied a e = cond (holds a e) empty e

abbrev pub without : Table → ℕ → Table
without t a = map (emptied a) t

-- the page that holds the address is marked clean
abbrev pub cleaned_entry : ℕ → Entry → Entry
cleaned_entry a e = cond (holds a e) (entry Clean a) e

abbrev pub cleaned : Table → ℕ → Table
cleaned t a = map (cleaned_entry a) t

-- a page enters an address, and the page that had the address is emptied
abbrev pub entered : Table → ℕ → Mark → ℕ → Table
entered t p mark a = slice_set (without t a) p (entry mark a)

-- What a record makes of the table. None is a breach: a put on a page that is not there, or that has a mark before it; a drop or a mark of an address
-- that no page holds.
abbrev pub put : Table → ℕ → Mark → ℕ → Option Table
put t p mark a = cond (nat_lt p (length t) && not (marked_at t p)) (Some (entered t p mark a)) None

abbrev pub apply : Table → Record → Option Table
apply t (PutClean p a) = put t p.0 Clean a.0
apply t (PutDirty p a) = put t p.0 Dirty a.0
apply t (Drop a) = cond (held t a.0) (Some (without t a.0)) None
apply t (MarkClean a) = cond (held t a.0) (Some (cleaned t a.0)) None

-- records in order, up to the first breach
abbrev pub next_table : Option Table → Record → Option Table
next_table None r = None
next_table (Some t) r = apply t r

abbrev pub replayed : Option Table → List Record → Option Table
replayed o [] = o
replayed o (r ∷ rs) = replayed (next_table o r) rs

-- What every table keeps: its entries are such as may stand on flash, and no address is held twice.
pub record ProperTable (t : Table) : Type 0 where
  pub entries : AllByRecursion ProperEntry t
  pub distinct : (i j a : ℕ) → holds a (entry_at t i) ≡ true → holds a (entry_at t j) ≡ true → i ≡ j

-- The same as tests, as a type keeps it: every entry has an address that fits its mark, and no address is held twice.
abbrev pub address_fits : Entry → Bool
address_fits e = cond (has_mark e.mark) (nat_lt e.address.0 4294967296) (e.address.0 == 0)

abbrev pub AllFit : Table → Type 0
AllFit t = (i : ℕ) → address_fits (entry_at t i) ≡ true

-- both hold the same address
abbrev pub clash : Entry → Entry → Bool
clash e f = has_mark e.mark && holds e.address.0 f

abbrev pub AllDistinct : Table → Type 0
AllDistinct t = (i j : ℕ) → clash (entry_at t i) (entry_at t j) ≡ true → i ≡ j
