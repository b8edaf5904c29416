-- What is dropped before an erase block is erased: every page of it that has a mark.
use Rattle.std.specs.Prelude.{ℕ, suc, Bool, cond, ◌&&◌, List, [], ◌∷◌, ◌++◌, ◌==◌}
use Rattle.device.specs.Chips.{block_of, data_page_at}
use Rattle.layout.specs.declared.records.Record.{Record}
use Rattle.layout.specs.declared.records.Record.TheVariants.{Drop}
use Rattle.table.specs.Tables.{Table, entry_at, marked_at, has_mark, empty, without}
use Rattle.journal.specs.Notes.{Noted, staging}

-- whether a data page lies in an erase block
abbrev pub in_block : ℕ → ℕ → Bool
in_block b i = block_of (data_page_at i) == b

-- the drops of the marked pages of an erase block, in page order; the entries are those of the data pages from i on
abbrev pub drops_from : Table → ℕ → ℕ → List Record
drops_from [] i b = []
drops_from (e ∷ es) i b = cond (in_block b i && has_mark e.mark) (Drop e.address ∷ drops_from es (suc i) b) (drops_from es (suc i) b)

-- the table without them
abbrev pub spared_from : Table → ℕ → ℕ → Table
spared_from [] i b = []
spared_from (e ∷ es) i b = cond (in_block b i) empty e ∷ spared_from es (suc i) b

abbrev pub drops : Table → ℕ → List Record
drops t b = drops_from t 0 b

abbrev pub spared : Table → ℕ → Table
spared t b = spared_from t 0 b

-- one page is dropped, if it has a mark
abbrev pub dropping_page : ℕ → Noted → Noted
dropping_page i v = cond (marked_at v.table i) (staging v (without v.table (entry_at v.table i).address.0) (Drop (entry_at v.table i).address)) v

-- the drops of an erase block are staged, as the table loses its pages
abbrev pub dropping : ℕ → Noted → Noted
dropping b v = record { table = spared v.table b; staged = v.staged ++ drops v.table b; area = v.area; number = v.number; next = v.next }
