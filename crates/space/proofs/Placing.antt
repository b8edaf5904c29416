-- The program of a blank data page: what it leaves of what the journal and the chip keep true of each other, and where a power cut in it leaves recovery.
use Rattle.std.proofs.Common.{◌≡◌, ℕ, ◌<◌, ◌≤◌, Bool, true, false, List, length, get_or, set, Ok, Err, Result, sym, refl, ap, ◌∙◌, subst, ⊎_elim, arith}
use Rattle.std.proofs.lemmas.Bool.{cases_eq, cases_Bool, true≢false}
use Rattle.std.proofs.lemmas.List.{get_or-set_same, get_or-set_other, length-set}
use Rattle.device.specs.declared.faults.Fault.{Fault}
use Rattle.device.specs.Cells.{Leaves, is_unsettled}
use Rattle.device.specs.Cells.Cell.{settled}
use Rattle.device.specs.Chips.{Note, State, Pages, Tears, Programs, data_page_at}
use Rattle.device.specs.Chips.State.{blank, torn, held}
use Rattle.device.proofs.Chipwise.{chip_reads}
use Rattle.device.proofs.Settling.{ends_reads}
use Rattle.layout.specs.Geometry.{data_pages, log_page_at}
use Rattle.layout.specs.Pages.{data_note}
use Rattle.table.specs.Tables.{Table, marked_at}
use Rattle.recovery.specs.Looking.{shown}
use Rattle.recovery.specs.Recovering.{Backed}
use Rattle.crash.specs.Crash.{Holds}
use Rattle.crash.proofs.Cuts.{first_small, safe_steps}
use Rattle.journal.specs.Notes.{Noted}
use Rattle.journal.specs.Points.{point, Left}
use Rattle.journal.specs.Ready.{Ready}
use Rattle.space.specs.Rooms.{Keeps, Places}
use Rattle.journal.specs.Steps.{Fails}
use Rattle.space.specs.Worlds.{World, world, is_blank, blank_page, flags, data_page_count, past, placed}
use Rattle.space.specs.declared.blanks.Space.{Space}
use Rattle.journal.proofs.Leaving.{left_of_holds}
use Rattle.journal.proofs.Settledness.{settled_as, settled_reads, program_lost, program_stays, program_reads}

pub blank_is : (x : State) → is_blank x ≡ true → x ≡ blank
blank_is blank h = refl
blank_is torn h = absurd (true≢false (sym h))
blank_is (held note bytes) h = absurd (true≢false (sym h))

pub blank_not_held : (x : State) (note : Note) (bytes : List ℕ) → x ≡ blank → x ≡ held note bytes → ⊥
blank_not_held x note bytes e k = let z : ◌≡◌ {A = ℕ} 0 1 = cc in omega arith

-- a blank page backs no mark
pub blank_unmarked : (D : ℕ) (s : ℕ → State) (t : Table) (i : ℕ) → Backed s t D → i < D → s (data_page_at i) ≡ blank → marked_at t i ≡ false
blank_unmarked D s t i backed k e =
    ⊎_elim
    (λ (mark : marked_at t i ≡ true). let (bytes, h) = backed i k mark in absurd (blank_not_held _ _ bytes e h))
    (λ (not : marked_at t i ≡ false). not)
    (cases_Bool (marked_at t i))

-- a cut may leave every page as it reads
pub shown_leaves : (m : Pages) → Leaves Tears m.cell (shown m)
shown_leaves m q = ends_reads Tears (m.cell q) (shown m q) refl

-- so the table that the chip holds does not mark a page that reads blank
pub held_unmarked : (D : ℕ) (m : Pages) (v : Noted) (t : Table) (i : ℕ) → Ready D m v t → i < D → shown m (data_page_at i) ≡ blank → marked_at t i ≡ false
held_unmarked D m v t i ready k e = let (next, found) = ready.holds (shown m) (shown_leaves m) in blank_unmarked D (shown m) t i found.backed k e

pub ready_small : (D : ℕ) (m : Pages) (v : Noted) (t : Table) → Ready D m v t → D ≤ 448
ready_small D m v t ready = omega (arith, ready.large, ready.few)

-- What a program of the blank data page i does, whatever it answers.
module _ (D i : ℕ) (note : Note) (bytes : List ℕ) (m m' : Pages) (v : Noted) (t : Table) (ready : Ready D m v t) (k : i < D) (free : blank_page (shown m) i ≡ true) where
  reads_blank : shown m (data_page_at i) ≡ blank
  reads_blank = blank_is (shown m (data_page_at i)) free

  was_blank : m.cell (data_page_at i) ≡ settled blank
  was_blank = settled_as m (data_page_at i) blank (ready.blanks i k reads_blank) reads_blank

  unmarked_apart : (u : Table) (j : ℕ) → marked_at u i ≡ false → marked_at u j ≡ true → data_page_at j ≡ data_page_at i → ⊥
  unmarked_apart u j a b e = let z : j ≡ i = omega arith in true≢false (sym b ∙ ap (marked_at u) z ∙ a)

  still_holds : (r : Result (Unit {0}) Fault) → Programs m (data_page_at i) note bytes r m' → Holds D m' v.area v.number t
  still_holds r call =
      (safe_steps D (ready_small D m v t ready)).data_page m m' v.area v.number t i note bytes r ready.holds (held_unmarked D m v t i ready k reads_blank) call

  -- a settled page other than this one stays
  stays : (r : Result (Unit {0}) Fault) (q : ℕ) → Programs m (data_page_at i) note bytes r m' → (q ≡ data_page_at i → ⊥) → is_unsettled (m.cell q) ≡ false
      → m'.cell q ≡ settled (shown m q)
  stays r q call ne h = program_stays m m' (data_page_at i) note bytes r q (shown m q) call ne (settled_reads (m.cell q) h)

  pub place_left : (r : Result (Unit {0}) Fault) → Programs m (data_page_at i) note bytes r m' → Left D m' (λ x. x ≡ point t (shown m))
  place_left r call =
      left_of_holds D m' v.area v.number t (shown m) (still_holds r call)
      (λ j l mark. stays r (data_page_at j) call (unmarked_apart t j (held_unmarked D m v t i ready k reads_blank) mark) (ready.firm j l mark))

  pub place_lost : (f : Fault) → length bytes ≡ 512 → Programs m (data_page_at i) note bytes (Err f) m' → Fails m f m'
  place_lost f whole call = program_lost m m' (data_page_at i) note bytes f ready.power whole (omega (arith, ready.large, ready.enough)) was_blank call

  module _ (call : Programs m (data_page_at i) note bytes (Ok tt) m') where
    here : shown m' (data_page_at i) ≡ held note bytes
    here = (chip_reads.after_program m m' (data_page_at i) note bytes call).0

    away : (j : ℕ) → (j ≡ i → ⊥) → shown m' (data_page_at j) ≡ shown m (data_page_at j)
    away j ne = (chip_reads.after_program m m' (data_page_at i) note bytes call).1 (data_page_at j) (λ e. ne (omega arith))

    place_backed : Backed (shown m') v.table D
    place_backed j l mark =
        let (xs, e) = ready.backed j l mark in
        let none = blank_unmarked D (shown m) v.table i ready.backed k reads_blank in
        (xs, away j (λ z. unmarked_apart v.table j none mark (ap data_page_at z)) ∙ e)

    place_blanks : (j : ℕ) → j < D → shown m' (data_page_at j) ≡ blank → is_unsettled (m'.cell (data_page_at j)) ≡ false
    place_blanks j l e =
        ⊎_elim
        (λ (z : j ≡ i). absurd (blank_not_held _ note bytes (ap (λ x. shown m' (data_page_at x)) (sym z) ∙ e) here))
        (λ (ne : j ≡ i → ⊥). ap is_unsettled (stays (Ok tt) (data_page_at j) call (λ z. ne (omega arith)) (ready.blanks j l (sym (away j ne) ∙ e))))
        (cases_eq j i)

    pub place_ready : Ready D m' v t
    place_ready = record {
      power = call.2.power;
      enough = subst (λ n. 12 ≤ n) (sym call.2.size) ready.enough;
      few = subst (λ n. n ≤ 64) (sym call.2.size) ready.few;
      large = ready.large ∙ ap data_pages (sym call.2.size);
      holds = still_holds (Ok tt) call;
      small = ready.small;
      makes = ready.makes;
      room = ready.room;
      records = ready.records;
      long = ready.long;
      proper = ready.proper;
      ends = ready.ends;
      ahead = λ j a b. program_stays m m' (data_page_at i) note bytes (Ok tt) (log_page_at D v.area j) blank call (λ e. omega (arith, first_small v.area)) (ready.ahead j a b);
      areas = λ p l. ap is_unsettled (stays (Ok tt) p call (λ e. omega arith) (ready.areas p l));
      firm = λ j l mark. ap is_unsettled (stays (Ok tt) (data_page_at j) call (unmarked_apart t j (held_unmarked D m v t i ready k reads_blank) mark) (ready.firm j l mark));
      backed = place_backed;
      blanks = place_blanks;
    }

    pub place_flags : (xs : List Bool) → i < length xs → ((j : ℕ) → j < D → get_or xs j false ≡ blank_page (shown m) j)
        → (j : ℕ) → j < D → get_or (set xs i false) j false ≡ blank_page (shown m') j
    place_flags xs inside h j l =
        ⊎_elim
        (λ (e : j ≡ i). rw e (get_or-set_same xs i false false inside ∙ sym (ap is_blank here)))
        (λ (ne : j ≡ i → ⊥). get_or-set_other xs i j false false ne ∙ h j l ∙ sym (ap is_blank (away j ne)))
        (cases_eq j i)

-- The whole step: the page and the note as the code has them, and the memory after the page was taken.
module _ (D i a p : ℕ) (note : Note) (bytes : List ℕ) (m m' : Pages) (v : Noted) (sp : Space) (at : p ≡ data_page_at i) (says : note ≡ data_note a) (k : i < D)
    (free : blank_page (shown m) i ≡ true) where
  as_data : (r : Result (Unit {0}) Fault) → Programs m p note bytes r m' → Programs m (data_page_at i) (data_note a) bytes r m'
  as_data r call = subst (λ x. Programs m (data_page_at i) x bytes r m') says (subst (λ q. Programs m q note bytes r m') at call)

  pub places_lost : (f : Fault) (t : Table) → Keeps D m v sp t → length bytes ≡ 512 → Programs m p note bytes (Err f) m' → (sp' : Space)
      → Places D i a bytes m v sp (Err f) m' sp'
  places_lost f t kept whole call sp' = (
    place_lost D i (data_note a) bytes m m' v t kept.ready k free f whole (as_data (Err f) call),
    λ u keeps. place_left D i (data_note a) bytes m m' v u keeps.ready k free (Err f) (as_data (Err f) call),
  )

  pub places_made : (t : Table) → Keeps D m v sp t → Programs m p note bytes (Ok tt) m' → (sp' : Space) → flags sp' ≡ set (flags sp) i false
      → sp'.cursor.0 ≡ past (data_page_count sp) i → Places D i a bytes m v sp (Ok tt) m' sp'
  places_made t kept call sp' used cursor = record {
    size = call.2.size;
    cells = made.2.cells;
    after = ap (λ s. world_of s sp'.cursor.0) (program_reads m m' (data_page_at i) (data_note a) bytes made)
        ∙ ap (world_of (placed D i a bytes (world m v sp)).pages) (cursor ∙ ap (λ n. past n i) kept.fits.long);
    keeps = λ u keeps. record {
      ready = place_ready D i (data_note a) bytes m m' v u keeps.ready k free made;
      fits = record {
        long = ap length used ∙ length-set (flags sp) i false ∙ keeps.fits.long;
        each = λ j l. ap (λ xs. get_or xs j false) used
            ∙ place_flags D i (data_note a) bytes m m' v u keeps.ready k free made (flags sp) (subst (λ n. i < n) (sym keeps.fits.long) k) keeps.fits.each j l;
      };
    };
  }
    where
      made : Programs m (data_page_at i) (data_note a) bytes (Ok tt) m'
      made = as_data (Ok tt) call

      world_of : (ℕ → State) → ℕ → World
      world_of s n = record { pages = s; noted = v; cursor = n }
