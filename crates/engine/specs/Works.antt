-- What the work of each call answers and leaves, while chip and cache are on. `t` is the table that was committed last.
use Rattle.std.specs.Prelude.{◌≡◌, ℕ, ◌+◌, ◌<◌, Bool, true, false, ◌⊎◌, List, [], Ok, Err, Result}
use Rattle.device.specs.declared.faults.Fault.{Fault}
use Rattle.device.specs.declared.faults.Refusal.TheVariants.{Full}
use Rattle.device.specs.Cells.{Cut, Leaves}
use Rattle.device.specs.Chips.{State, Pages, Tears, data_page_at}
use Rattle.device.specs.Chips.State.{held}
use Rattle.layout.specs.Pages.{data_note}
use Rattle.recovery.specs.Looking.{shown, Quiet, Lost}
use Rattle.recovery.specs.Recovering.{Found, Recovered, Failed, cache_fault}
use Rattle.table.specs.Choices.{FirstRound}
use Rattle.table.specs.Tables.{Table, entered, without}
use Rattle.table.specs.Tables as tables
use Rattle.journal.specs.declared.memory.Journal.{Journal}
use Rattle.journal.specs.Notes.{Noted, noted, formed_pages, formed}
use Rattle.journal.specs.Points.{Point, point, Left, Either}
use Rattle.journal.specs.Steps.{AllSettled, Fails}
use Rattle.space.specs.declared.blanks.Space.{Space}
use Rattle.space.specs.Worlds.{World, world, blank_page, committing, placed_pages}
use Rattle.space.specs.Rooms.{MakesRoom, NoRoom, RoomPoints, Keeps}
use Rattle.engine.specs.Moves.{roomy, mark_for, must_commit, committing_if, putting, written, evicted, made_clean}

-- no address is held by the committed table alone
abbrev pub Onward : Table → Table → Type 0
Onward t u = (a : ℕ) → tables.held t a ≡ true → tables.held u a ≡ true

-- what holds between calls
pub record Holding (D : ℕ) (m : Pages) (v : Noted) (sp : Space) (t : Table) : Type 0 where
  pub keeps : Keeps D m v sp t
  pub onward : Onward t v.table

-- Served, the call leaves this world, with everything settled if it is so asked, and the committed table is one that `Commits` allows. Otherwise power failed, and
-- recovery comes out at one of the points.
abbrev pub Works : ℕ → Pages → Noted → Space → (World → Type 0) → (Table → Table → Type 0) → (Table → Point → Type 0) → Result (Unit {0}) Fault → Pages → Noted → Space → Type 0
Works D m v sp Becomes Commits Points (Ok x) m' v' sp' =
    (m'.size ≡ m.size) × Becomes (world m' v' sp') × ((t : Table) → Holding D m v sp t → (u : Table) × Holding D m' v' sp' u × Commits t u)
Works D m v sp Becomes Commits Points (Err f) m' v' sp' = Fails m f m' × ((t : Table) → Holding D m v sp t → Left D m' (Points t))

-- A commit before the 65th record.
abbrev pub MakesRoomy : ℕ → Pages → Noted → Space → Result (Unit {0}) Fault → Pages → Noted → Type 0
MakesRoomy D m v sp r m' v' =
    Works D m v sp (λ w. w ≡ roomy D (world m v sp)) (λ t u. (u ≡ t) ⊎ (u ≡ v.table)) (λ t. Either (point t (shown m)) (point v.table (shown m))) r m' v' sp

-- A page that is held already enters an address: the put is staged, and committed if it must be.
abbrev pub Enters : ℕ → Bool → ℕ → ℕ → Pages → Noted → Space → Result (Unit {0}) Fault → Pages → Noted → Type 0
Enters D dirty i a m v sp r m' v' =
    Works D m v sp
    (λ w. (w ≡ committing_if (must_commit dirty a (world m v sp)) D (putting dirty i a (world m v sp))) × (must_commit dirty a (world m v sp) ≡ true → AllSettled m'))
    (λ t u. (u ≡ v'.table) ⊎ ((tables.held t a ≡ false) × (u ≡ t)))
    (λ t. Either (point t (shown m)) (point (entered v.table i (mark_for dirty) a) (shown m))) r m' v' sp

-- Write. Where there is no room it is refused with 9, and nothing has changed.

-- where recovery can come out: on the way to a room; at the table in memory; at the new table, on the new page
abbrev pub WritePoints : ℕ → ℕ → Bool → ℕ → List ℕ → World → Table → Point → Type 0
WritePoints D blocks dirty a bytes w t x =
    (x ≡ point t w.pages) ⊎ ((x ≡ point w.noted.table w.pages) ⊎ (RoomPoints D blocks t w x
    ⊎ ((u : World) × (i : ℕ) × MakesRoom D blocks w u × FirstRound (blank_page u.pages) D u.cursor i
    × (x ≡ point (entered u.noted.table i (mark_for dirty) a) (placed_pages i a bytes u.pages)))))

-- the new table is committed; or, where the address was not held, one without it: the one committed before, or the one in memory once there was room
abbrev pub WriteCommits : ℕ → World → World → Table → Table → Table → Type 0
WriteCommits a w u after t t' = (t' ≡ after) ⊎ ((tables.held t' a ≡ false) × (((u ≡ w) × (t' ≡ t)) ⊎ (t' ≡ u.noted.table)))

abbrev pub Writes : ℕ → ℕ → Bool → ℕ → List ℕ → Pages → Noted → Space → Result (Unit {0}) Fault → Pages → Noted → Space → Type 0
Writes D blocks dirty a bytes m v sp (Ok x) m' v' sp' =
    (u : World) × (i : ℕ) × MakesRoom D blocks (world m v sp) u × FirstRound (blank_page u.pages) D u.cursor i
    × Works D m v sp (λ w. w ≡ written D dirty a bytes i u) (WriteCommits a (world m v sp) u v'.table) (WritePoints D blocks dirty a bytes (world m v sp)) (Ok x) m' v' sp'
    × (must_commit dirty a u ≡ true → AllSettled m')
Writes D blocks dirty a bytes m v sp (Err f) m' v' sp' =
    ((f ≡ cache_fault a Full) × NoRoom D blocks (world m v sp) × (m' ≡ m) × (v' ≡ v) × (sp' ≡ sp))
    ⊎ (Fails m f m' × ((t : Table) → Holding D m v sp t → Left D m' (WritePoints D blocks dirty a bytes (world m v sp) t)))

-- Evict.
abbrev pub Evicts : ℕ → ℕ → Pages → Noted → Space → Result (Unit {0}) Fault → Pages → Noted → Type 0
Evicts D a m v sp r m' v' =
    Works D m v sp (λ w. (w ≡ evicted D a (world m v sp)) × AllSettled m') (λ t u. u ≡ v'.table)
    (λ t x. (x ≡ point t (shown m)) ⊎ ((x ≡ point v.table (shown m)) ⊎ (x ≡ point (without v.table a) (shown m)))) r m' v' sp

-- Clean, of a dirty page.
abbrev pub Cleans : ℕ → ℕ → Pages → Noted → Space → Result (Unit {0}) Fault → Pages → Noted → Type 0
Cleans D a m v sp r m' v' =
    Works D m v sp (λ w. w ≡ made_clean D a (world m v sp)) (λ t u. (u ≡ t) ⊎ (u ≡ v.table)) (λ t. Either (point t (shown m)) (point v.table (shown m))) r m' v' sp

-- Sync: a commit.
abbrev pub Flushes : ℕ → Pages → Noted → Space → Result (Unit {0}) Fault → Pages → Noted → Type 0
Flushes D m v sp r m' v' =
    Works D m v sp (λ w. (w ≡ committing D (world m v sp)) × AllSettled m') (λ t u. u ≡ v.table) (λ t. Either (point t (shown m)) (point v.table (shown m))) r m' v' sp

-- Read: the data of the page that holds the address.
abbrev pub Fetches : ℕ → ℕ → Pages → Noted → Space → List ℕ → Result (Unit {0}) Fault → List ℕ → Pages → Type 0
Fetches D a m v sp buf (Ok x) after m' =
    Quiet m m' × ((i : ℕ) × (tables.holds a (tables.entry_at v.table i) ≡ true) × (shown m (data_page_at i) ≡ held (data_note a) after))
    × ((t : Table) → Holding D m v sp t → Holding D m' v sp t)
Fetches D a m v sp buf (Err f) after m' =
    (after ≡ buf) × Fails m f m' × ((t : Table) → Holding D m v sp t → Left D m' (λ x. x ≡ point t (shown m)))

-- Power-on, and what recovery finds.

-- a power cut decided each page
abbrev pub CutTo : Pages → Pages → Type 0
CutTo m m' = (p : ℕ) → Cut Tears (m.cell p) (m'.cell p)

abbrev pub recovered_as : Found → Noted
recovered_as f = record { table = f.table; staged = []; area = f.area; number = f.number; next = f.next }

pub record Woken (D : ℕ) (m m' : Pages) (j : Journal) (sp : Space) : Type 0 where
  pub size : m'.size ≡ m.size
  pub cut : CutTo m m'
  pub found : Found
  pub recovered : Recovered D (shown m') found
  pub as_found : noted j ≡ recovered_as found
  pub start : sp.cursor.0 ≡ 0
  pub holding : Holding D m' (noted j) sp (noted j).table

-- refused: the chip has no power, and each page is as before or as a cut left it; or recovery met a fault on a chip that is on
abbrev pub StaysDark : ℕ → Pages → Fault → Pages → Type 0
StaysDark D m f m' =
    (m'.size ≡ m.size)
    × ((Lost f m' × ((s : ℕ → State) → Leaves Tears m'.cell s → Leaves Tears m.cell s)) ⊎ ((m'.on ≡ true) × CutTo m m' × Failed D (shown m') f))

-- Form: the chip is formed, every data page is blank.
pub record Begun (D : ℕ) (m m' : Pages) (j : Journal) (sp : Space) : Type 0 where
  pub size : m'.size ≡ m.size
  pub settled_all : AllSettled m'
  pub pages : (p : ℕ) → p < 64 + D → shown m' p ≡ formed_pages D p
  pub as_formed : noted j ≡ formed D
  pub start : sp.cursor.0 ≡ 0
  pub holding : Holding D m' (noted j) sp (noted j).table
