-- What each call makes of the world: the pages, the journal and the cursor.
use Rattle.std.specs.Prelude.{ℕ, Bool, true, cond, List, length, ◌==◌}
use Rattle.device.specs.declared.places.DataPage.{DataPage}
use Rattle.device.specs.declared.places.DiskAddress.{DiskAddress}
use Rattle.layout.specs.declared.entries.Mark.{Mark}
use Rattle.layout.specs.declared.entries.Mark.TheVariants.{Clean, Dirty}
use Rattle.layout.specs.declared.records.Record.{Record}
use Rattle.layout.specs.declared.records.Record.TheVariants.{PutClean, PutDirty, Drop, MarkClean}
use Rattle.table.specs.Tables.{Table, held, entered, without, cleaned}
use Rattle.journal.specs.Notes.{staging}
use Rattle.space.specs.Worlds.{World, committing, placed}

abbrev pub page : ℕ → DataPage
page i = record { 0 = i }

abbrev pub address : ℕ → DiskAddress
address a = record { 0 = a }

-- With 64 records staged, a commit comes before the next one.
abbrev pub roomy : ℕ → World → World
roomy D w = cond (length w.noted.staged == 64) (committing D w) w

-- A record is staged, and the table changes with it.
abbrev pub with_record : Table → Record → World → World
with_record t r w = record { pages = w.pages; noted = staging w.noted t r; cursor = w.cursor }

-- A commit that comes only if it must.
abbrev pub committing_if : Bool → ℕ → World → World
committing_if must D w = cond must (committing D w) w

-- Writing: the new page enters the address, dirty or clean.

abbrev pub mark_for : Bool → Mark
mark_for dirty = cond dirty Dirty Clean

abbrev pub put_for : Bool → ℕ → ℕ → Record
put_for dirty i a = cond dirty (PutDirty (page i) (address a)) (PutClean (page i) (address a))

abbrev pub putting : Bool → ℕ → ℕ → World → World
putting dirty i a w = with_record (entered w.noted.table i (mark_for dirty) a) (put_for dirty i a) w

-- the commit comes if the page is dirty, or the address is held as the put is staged
abbrev pub must_commit : Bool → ℕ → World → Bool
must_commit dirty a w = cond dirty true (held w.noted.table a)

-- program the page, with 64 staged commit, enter it and stage the put, commit
abbrev pub written : ℕ → Bool → ℕ → List ℕ → ℕ → World → World
written D dirty a bytes i w = committing_if (must_commit dirty a w) D (putting dirty i a (roomy D (placed D i a bytes w)))

-- Evicting: the entry is emptied, the drop staged and committed.

abbrev pub evicting : ℕ → World → World
evicting a w = with_record (without w.noted.table a) (Drop (address a)) w

abbrev pub evicted : ℕ → ℕ → World → World
evicted D a w = committing D (evicting a (roomy D w))

-- Cleaning: dirty becomes clean, and the mark is staged.

abbrev pub cleaning : ℕ → World → World
cleaning a w = with_record (cleaned w.noted.table a) (MarkClean (address a)) w

abbrev pub made_clean : ℕ → ℕ → World → World
made_clean D a w = cleaning a (roomy D w)
