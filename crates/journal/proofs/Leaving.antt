-- Where a power cut may leave recovery, from what the chip holds and from the settled pages that its tables mark.
use Rattle.std.proofs.Common.{◌≡◌, ℕ, ◌<◌, true, ◌⊎◌, refl, inl, inr}
use Rattle.device.specs.Cells.{Leaves}
use Rattle.device.specs.Cells.Cell.{settled}
use Rattle.device.specs.Chips.{State, Pages, Tears, data_page_at}
use Rattle.layout.specs.declared.areas.Area.{Area}
use Rattle.table.specs.Tables.{Table, marked_at}
use Rattle.crash.specs.Crash.{Finds, Holds, HoldsEither}
use Rattle.crash.proofs.Ways.{settled_way}
use Rattle.journal.specs.Points.{Point, point, ReadsAs, Left, Either}

-- the data pages that the table marks are settled, and read as given
abbrev pub Firm : ℕ → Pages → Table → (ℕ → State) → Type 0
Firm D m t pages = (i : ℕ) → i < D → marked_at t i ≡ true → m.cell (data_page_at i) ≡ settled (pages (data_page_at i))

pub firm_reads : (D : ℕ) (m : Pages) (t : Table) (pages s : ℕ → State) → Firm D m t pages → Leaves Tears m.cell s → ReadsAs D s (point t pages)
firm_reads D m t pages s h l i k e = settled_way m.cell s (data_page_at i) (pages (data_page_at i)) l (h i k e)

pub left_more : (D : ℕ) (m : Pages) (A B : Point → Type 0) → ((x : Point) → A x → B x) → Left D m A → Left D m B
left_more D m A B f h s l = let (x, a, reads, found) = h s l in (x, f x a, reads, found)

pub left_of_holds : (D : ℕ) (m : Pages) (area : Area) (n : ℕ) (t : Table) (pages : ℕ → State) → Holds D m area n t → Firm D m t pages → Left D m (λ x. x ≡ point t pages)
left_of_holds D m area n t pages h firm s l = (point t pages, refl, firm_reads D m t pages s firm l, (area, n, h s l))

pub left_of_either : (D : ℕ) (m : Pages) (area : Area) (n : ℕ) (t : Table) (area' : Area) (n' : ℕ) (u : Table) (pages : ℕ → State)
    → HoldsEither D m area n t area' n' u → Firm D m t pages → Firm D m u pages → Left D m (Either (point t pages) (point u pages))
left_of_either D m area n t area' n' u pages h a b s l = go (h s l)
  where
    go : Finds D s area n t ⊎ Finds D s area' n' u → (x : Point) × Either (point t pages) (point u pages) x × ReadsAs D s x × ((area : Area) × (n : ℕ) × Finds D s area n x.table)
    go (inl f) = (point t pages, inl refl, firm_reads D m t pages s a l, (area, n, f))
    go (inr f) = (point u pages, inr refl, firm_reads D m u pages s b l, (area', n', f))

-- the first of two points
pub left_first : (D : ℕ) (m : Pages) (a b : Point) → Left D m (λ x. x ≡ a) → Left D m (Either a b)
left_first D m a b h = left_more D m (λ x. x ≡ a) (Either a b) (λ x e. inl e) h
