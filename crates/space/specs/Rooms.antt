-- Where a new page comes from, and what making room for it answers and leaves.
use Rattle.std.specs.Prelude.{◌≡◌, ℕ, ◌<◌, true, false, cond, ◌⊎◌, List, Some, None, Ok, Err, Option, Result, ◌==◌}
use Rattle.device.specs.declared.faults.Fault.{Fault}
use Rattle.device.specs.declared.places.DataPage.{DataPage}
use Rattle.device.specs.Cells.{Cell, Early}
use Rattle.device.specs.Cells.Cell.{unsettled}
use Rattle.device.specs.Chips.{State, Pages, data_page_at}
use Rattle.device.specs.Chips.State.{blank, held}
use Rattle.layout.specs.Pages.{data_note}
use Rattle.recovery.specs.Looking.{shown}
use Rattle.table.specs.Choices.{FirstRound, Victim}
use Rattle.table.specs.Tables.{Table}
use Rattle.journal.specs.Drops.{spared}
use Rattle.journal.specs.declared.memory.Journal.{Journal}
use Rattle.journal.specs.Notes.{Noted, noted, pages_of}
use Rattle.journal.specs.Points.{Point, point, Left}
use Rattle.journal.specs.Ready.{Ready}
use Rattle.journal.specs.Steps.{AllSettled, Fails}
use Rattle.space.specs.declared.blanks.Space.{Space}
use Rattle.space.specs.Worlds.{World, world, blank_page, Fits, reclaimed, placed}

-- no data page is blank
abbrev pub NoneBlank : ℕ → World → Type 0
NoneBlank D w = (i : ℕ) → i < D → blank_page w.pages i ≡ false

-- What there is room in: the world as it is, if a data page is blank; else with the victim reclaimed, the data erase block without a dirty page that has
-- the fewest marked pages, the lowest if equal.
abbrev pub MakesRoom : ℕ → ℕ → World → World → Type 0
MakesRoom D blocks w u =
    ((u ≡ w) × ((i : ℕ) × (i < D) × (blank_page w.pages i ≡ true)))
    ⊎ (NoneBlank D w × ((b : ℕ) × Victim w.noted.table blocks (Some b) × (u ≡ reclaimed D b w)))

-- there is no room: no page is blank, and every data erase block has a dirty page
abbrev pub NoRoom : ℕ → ℕ → World → Type 0
NoRoom D blocks w = NoneBlank D w × Victim w.noted.table blocks None

-- The points at which recovery can come out where power fails in a reclaim: the table committed before, the one in memory, and that without the pages of
-- the victim.
abbrev pub ReclaimPoints : ℕ → Table → World → Point → Type 0
ReclaimPoints b t w x = (x ≡ point t w.pages) ⊎ ((x ≡ point w.noted.table w.pages) ⊎ (x ≡ point (spared w.noted.table b) w.pages))

abbrev pub RoomPoints : ℕ → ℕ → Table → World → Point → Type 0
RoomPoints D blocks t w x = (NoneBlank D w × ((b : ℕ) × Victim w.noted.table blocks (Some b) × ReclaimPoints b t w x))

-- What is kept through a served step: the memory agrees with the chip, and the journal is ready, with the committed table that is given.
pub record Keeps (D : ℕ) (m : Pages) (v : Noted) (sp : Space) (t : Table) : Type 0 where
  pub ready : Ready D m v t
  pub fits : Fits D m sp

-- the same, with some committed table
abbrev pub KeepsSomeTable : Pages → Journal → Space → Type 0
KeepsSomeTable m j sp = (t : Table) × Keeps (pages_of j) m (noted j) sp t

-- A reclaim of an erase block.
abbrev pub Reclaims : ℕ → ℕ → Pages → Noted → Space → Result (Unit {0}) Fault → Pages → Noted → Space → Type 0
Reclaims D b m v sp (Ok x) m' v' sp' =
    (m'.size ≡ m.size) × AllSettled m' × (world m' v' sp' ≡ reclaimed D b (world m v sp)) × ((t : Table) → Keeps D m v sp t → Keeps D m' v' sp' v'.table)
Reclaims D b m v sp (Err f) m' v' sp' =
    Fails m f m' × ((t : Table) → Keeps D m v sp t → Left D m' (ReclaimPoints b t (world m v sp)))

-- A page to write to, in the order of the rules: there is none, and nothing has changed; or the first blank one at or after the cursor, going round, once
-- there is room.
abbrev pub FindsRoom : ℕ → ℕ → Pages → Noted → Space → Result (Option DataPage) Fault → Pages → Noted → Space → Type 0
FindsRoom D blocks m v sp (Ok None) m' v' sp' = NoRoom D blocks (world m v sp) × (m' ≡ m) × (v' ≡ v) × (sp' ≡ sp)
FindsRoom D blocks m v sp (Ok (Some i)) m' v' sp' =
    (m'.size ≡ m.size) × MakesRoom D blocks (world m v sp) (world m' v' sp') × FirstRound (blank_page (shown m')) D sp'.cursor.0 i.0
    × ((t : Table) → Keeps D m v sp t → (u : Table) × Keeps D m' v' sp' u × ((u ≡ t) ⊎ (u ≡ v'.table)))
    × ((p : ℕ) → (m'.cell p ≡ m.cell p) ⊎ AllSettled m')
FindsRoom D blocks m v sp (Err f) m' v' sp' =
    Fails m f m' × ((t : Table) → Keeps D m v sp t → Left D m' (RoomPoints D blocks t (world m v sp)))

-- A data page that is programmed: it is unsettled, unless it was settled early; so may be any other page that was.
abbrev pub programmed_cell : ℕ → ℕ → List ℕ → (ℕ → Cell State) → ℕ → Cell State
programmed_cell i a bytes cells p = cond (p == data_page_at i) (unsettled blank (held (data_note a) bytes)) (cells p)

pub record Placed (D i a : ℕ) (bytes : List ℕ) (m : Pages) (v : Noted) (sp : Space) (m' : Pages) (sp' : Space) : Type 0 where
  pub size : m'.size ≡ m.size
  pub cells : (p : ℕ) → Early (programmed_cell i a bytes m.cell p) (m'.cell p)
  pub after : world m' v sp' ≡ placed D i a bytes (world m v sp)
  pub keeps : (t : Table) → Keeps D m v sp t → Keeps D m' v sp' t

abbrev pub Places : ℕ → ℕ → ℕ → List ℕ → Pages → Noted → Space → Result (Unit {0}) Fault → Pages → Space → Type 0
Places D i a bytes m v sp (Ok x) m' sp' = Placed D i a bytes m v sp m' sp'
Places D i a bytes m v sp (Err f) m' sp' =
    Fails m f m' × ((t : Table) → Keeps D m v sp t → Left D m' (λ x. x ≡ point t (shown m)))
