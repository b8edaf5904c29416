-- What the journal's calls answer and leave.
use Rattle.std.specs.Prelude.{◌≡◌, ℕ, zero, suc, ◌⊎◌, ◌-◌, ◌*◌, ◌<◌, ◌≤◌, true, false, cond, length, Ok, Err, Result, ◌==◌, nat_lt}
use Rattle.device.specs.declared.faults.Fault.{Fault}
use Rattle.device.specs.Cells.{is_unsettled}
use Rattle.device.specs.Cells.Cell.{settled}
use Rattle.device.specs.Chips.{State, Pages, Erases, Syncs}
use Rattle.device.specs.Chips.State.{blank}
use Rattle.layout.specs.declared.areas.Area.{Area}
use Rattle.layout.specs.Geometry.{entry_pages, first_page, other_area, trailer_at}
use Rattle.layout.specs.Laws.{entry_page, trailer_page}
use Rattle.table.specs.Tables.{Table, ProperTable}
use Rattle.recovery.specs.Looking.{shown, Lost}
use Rattle.crash.specs.Crash.{Holds, HoldsEither, SettledBacked, SettledEntries, BlankFrom}
use Rattle.journal.specs.Notes.{Noted, in_area, next_number, committed_pages, committed, formed_pages, formed}
use Rattle.journal.specs.Points.{Left, Either, point}
use Rattle.journal.specs.Ready.{Ready}

abbrev pub AllSettled : Pages → Type 0
AllSettled m = (p : ℕ) → is_unsettled (m.cell p) ≡ false

-- the chip is on, as large as it was, and every page is settled and reads as given
pub record Lands (m : Pages) (pages : ℕ → State) (m' : Pages) : Type 0 where
  pub power : m'.on ≡ true
  pub size : m'.size ≡ m.size
  pub cells : (p : ℕ) → m'.cell p ≡ settled (pages p)

-- the chip has lost its power, and is as large as it was
pub record Fails (m : Pages) (f : Fault) (m' : Pages) : Type 0 where
  pub lost : Lost f m'
  pub size : m'.size ≡ m.size

-- Served, every page is settled as given. Otherwise the chip has lost its power.
abbrev pub Landing : Pages → (ℕ → State) → Result (Unit {0}) Fault → Pages → Type 0
Landing m pages (Ok x) m' = Lands m pages m'
Landing m pages (Err f) m' = Fails m f m'

-- A commit, given what it makes of the pages and of the journal. Served, the table in memory is the committed one. Otherwise power failed, and whichever
-- way a cut goes recovery finds the table that was committed before, or the one in memory.
abbrev pub CommitsAs : ℕ → Pages → Noted → (ℕ → State) → Noted → Result (Unit {0}) Fault → Pages → Noted → Type 0
CommitsAs D m v pages w (Ok x) m' v' = Lands m pages m' × (v' ≡ w) × ((t : Table) → Ready D m v t → Ready D m' v' v.table)
CommitsAs D m v pages w (Err f) m' v' = Fails m f m' × ((t : Table) → Ready D m v t → Left D m' (Either (point t (shown m)) (point v.table (shown m))))

abbrev pub Commits : ℕ → Pages → Noted → Result (Unit {0}) Fault → Pages → Noted → Type 0
Commits D m v r m' v' = CommitsAs D m v (committed_pages D v (shown m)) (committed D v) r m' v'

-- The parts of a checkpoint. `active` is the area that is not written.

-- every page outside the other area is as it was
abbrev pub Beside : Area → Pages → Pages → Type 0
Beside active m m' = (p : ℕ) → in_area (other_area active) p ≡ false → m'.cell p ≡ m.cell p

-- what the chip holds in the active area, it still holds
abbrev pub StillHolds : Area → Pages → Pages → Type 0
StillHolds active m m' = (D n : ℕ) (t : Table) → D ≤ 448 → Holds D m active n t → Holds D m' active n t

abbrev pub cleared : Area → (ℕ → State) → ℕ → State
cleared active pages p = cond (in_area (other_area active) p) blank (pages p)

abbrev pub with_entries : ℕ → Area → Table → (ℕ → State) → ℕ → State
with_entries D active t pages p =
    cond (in_area (other_area active) p)
    (cond (nat_lt (p - first_page (other_area active)) (entry_pages D)) (entry_page t (p - first_page (other_area active))) blank) (pages p)

abbrev pub with_trailer : ℕ → Area → ℕ → (ℕ → State) → ℕ → State
with_trailer D active n pages p = cond (p == trailer_at D (other_area active)) (trailer_page (other_area active) D n) (pages p)

-- Once the trailer is settled the new table is the one that the chip holds; until then it is that or the old one.
abbrev pub TakesOver : ℕ → Area → ℕ → Result (Unit {0}) Fault → Pages → Pages → Type 0
TakesOver D active number (Ok x) m m' =
    (n : ℕ) (t u : Table) → Holds D m active n t → n < 3 → number ≡ next_number n → length u ≡ D → ProperTable u → SettledEntries D m (other_area active) u
    → BlankFrom D m (other_area active) 0 → SettledBacked D m u → Holds D m' (other_area active) number u
TakesOver D active number (Err f) m m' =
    (n : ℕ) (t u : Table) → Holds D m active n t → n < 3 → number ≡ next_number n → length u ≡ D → ProperTable u → SettledEntries D m (other_area active) u
    → BlankFrom D m (other_area active) 0 → SettledBacked D m u → HoldsEither D m' active n t (other_area active) number u

-- the erase of a block is not served
abbrev pub Breaks : ℕ → Pages → Result (Unit {0}) Fault → Pages → Type 0
Breaks b m (Ok x) m' = ⊥
Breaks b m (Err f) m' = Erases m b (Err f) m'

-- The erases of a row of blocks, each behind the last, and the sync behind them: b is the block that comes next, and k the number of those to go. The
-- first call that is not served is the last one.
abbrev pub ErasesRow : (b k : ℕ) → Pages → Result (Unit {0}) Fault → Pages → Type 0
ErasesRow b zero m r m' = Syncs m r m'
ErasesRow b (suc k) m r m' = Breaks b m r m' ⊎ ((n : Pages) × Erases m b (Ok tt) n × ErasesRow (suc b) k n r m')

-- Every page of the chip is erased, and everything is settled.
pub record AllBlank (m m' : Pages) : Type 0 where
  pub power : m'.on ≡ true
  pub size : m'.size ≡ m.size
  pub settled_all : AllSettled m'
  pub blanks : (p : ℕ) → p < 8 * m.size → shown m' p ≡ blank

abbrev pub Wiped : Pages → Result (Unit {0}) Fault → Pages → Type 0
Wiped m (Ok x) m' = AllBlank m m'
Wiped m (Err f) m' = Fails m f m'

-- A form. Served, the chip is formed, and the journal is that of an empty table.
pub record Formed (D : ℕ) (m m' : Pages) (v : Noted) : Type 0 where
  pub power : m'.on ≡ true
  pub size : m'.size ≡ m.size
  pub settled_all : AllSettled m'
  pub cells : (p : ℕ) → p < 8 * m.size → shown m' p ≡ formed_pages D p
  pub noted : v ≡ formed D
  pub ready : Ready D m' v v.table
