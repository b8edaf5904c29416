-- What a checkpoint leaves, part by part, and what recovery can find wherever power fails in it.
use Rattle.std.proofs.Common.{◌≡◌, ℕ, ◌+◌, ◌-◌, ◌<◌, ◌≤◌, true, false, ltb, leb, List, [], length, Ok, Err, sym, refl, ap, ◌∙◌, subst, ap₂, ⊎_elim, arith}
use Rattle.std.proofs.lemmas.Bool.{eq-eqb, ne_eqb, lt-ltb, le-ltb, le-leb, cases_eq, cases_Bool, and_from, and_right}
use Rattle.device.specs.declared.faults.Fault.{Fault}
use Rattle.device.specs.Cells.{reads}
use Rattle.device.specs.Cells.Cell.{settled}
use Rattle.device.specs.Chips.{State, Pages, data_page_at}
use Rattle.device.specs.Chips.State.{blank}
use Rattle.layout.specs.declared.areas.Area.{Area}
use Rattle.layout.specs.declared.records.Record.{Record}
use Rattle.layout.specs.Geometry.{data_pages, entry_pages, first_page, other_area, entry_page_at, trailer_at, log_page_at}
use Rattle.layout.specs.Laws.{entry_page, trailer_page}
use Rattle.table.specs.Tables.{Table, ProperTable}
use Rattle.recovery.specs.Looking.{shown}
use Rattle.recovery.specs.Recovering.{Backed}
use Rattle.crash.specs.Crash.{Holds, SettledBacked, SettledEntries, BlankFrom}
use Rattle.crash.proofs.Cuts.{first_small}
use Rattle.journal.specs.Notes.{Noted, in_area, checkpoint_pages, next_number, checkpointed}
use Rattle.journal.specs.Points.{point}
use Rattle.journal.specs.Ready.{Ready}
use Rattle.journal.specs.Steps.{AllSettled, Lands, Fails, Beside, StillHolds, CommitsAs, cleared, with_entries, with_trailer, TakesOver}
use Rattle.journal.proofs.AreaBlocks.{area_inside}
use Rattle.journal.proofs.Committing.{CutShort, OldOrNew, few_pages}
use Rattle.journal.proofs.Leaving.{left_of_holds, left_of_either, left_first}
use Rattle.journal.proofs.Settledness.{settled_reads, lands_settled, fails_then}

-- Pages by whether they lie in an area

pub inside_area : (area : Area) (k p : ℕ) → k < 32 → p ≡ first_page area + k → in_area area p ≡ true
inside_area area k p l e =
    and_from (leb (first_page area) p) (ltb p (first_page area + 32)) (le-leb (first_page area) p (omega arith)) (lt-ltb p (first_page area + 32) (omega arith))

pub data_outside : (area : Area) (i : ℕ) → in_area area (data_page_at i) ≡ false
data_outside area i =
    and_right (leb (first_page area) (data_page_at i)) (ltb (data_page_at i) (first_page area + 32))
    (le-ltb (data_page_at i) (first_page area + 32) (omega (arith, first_small area)))

-- The pages of the other area once its entries are filled in, and then its trailer.
module _ (D : ℕ) (small : D ≤ 448) (a : Area) (t : Table) where
  abbrev E : ℕ
  E = entry_pages D

  abbrev first : ℕ
  first = first_page (other_area a)

  pub entry_there : (pages : ℕ → State) (j : ℕ) → j < entry_pages D → with_entries D a t pages (entry_page_at (other_area a) j) ≡ entry_page t j
  entry_there pages j l =
      let e : first + j - first ≡ j = omega arith in
      rw (inside_area (other_area a) j (first + j) (omega arith) refl, e, lt-ltb j E l)

  pub blank_there : (pages : ℕ → State) (k p : ℕ) → E ≤ k → k < 32 → p ≡ first + k → with_entries D a t pages p ≡ blank
  blank_there pages k p low high e = rw (inside_area (other_area a) k p high e, le-ltb (p - first) E (omega arith))

  pub outside_there : (pages : ℕ → State) (p : ℕ) → in_area (other_area a) p ≡ false → with_entries D a t pages p ≡ pages p
  outside_there pages p out = rw out

  pub trailer_elsewhere : (n : ℕ) (pages : ℕ → State) (p : ℕ) → (p ≡ trailer_at D (other_area a) → ⊥) → with_trailer D a n pages p ≡ pages p
  trailer_elsewhere n pages p ne = rw (ne_eqb p (trailer_at D (other_area a)) ne)

  trailer_inside : (p : ℕ) → p ≡ trailer_at D (other_area a) → in_area (other_area a) p ≡ true
  trailer_inside p e = inside_area (other_area a) E p (omega arith) e

  -- both together make the checkpoint
  pub written : (n : ℕ) (pages q₁ q₂ : ℕ → State) (p : ℕ) → (in_area (other_area a) p ≡ false → q₁ p ≡ pages p) → q₂ p ≡ with_entries D a t q₁ p
      → with_trailer D a n q₂ p ≡ checkpoint_pages D (other_area a) n t pages p
  written n pages q₁ q₂ p out e =
      ⊎_elim
      (λ (here : p ≡ trailer_at D (other_area a)).
      rw (eq-eqb p (trailer_at D (other_area a)) here, trailer_inside p here, le-ltb (p - first) E (omega arith), eq-eqb (p - first) E (omega arith)))
      (λ (ne : p ≡ trailer_at D (other_area a) → ⊥). trailer_elsewhere n q₂ p ne ∙ e ∙ rest ne)
      (cases_eq p (trailer_at D (other_area a)))
    where
      rest : (p ≡ trailer_at D (other_area a) → ⊥) → with_entries D a t q₁ p ≡ checkpoint_pages D (other_area a) n t pages p
      rest ne =
          ⊎_elim
          (λ (yes : in_area (other_area a) p ≡ true).
          let at = area_inside (other_area a) p yes in
          rw (yes, ne_eqb (p - first) E (λ z. ne (omega (arith, at)))))
          (λ (no : in_area (other_area a) p ≡ false). rw no (out no))
          (cases_Bool (in_area (other_area a) p))

-- A chip that holds a table, all settled, with a blank log and nothing staged, is ready.
pub fresh_ready : (D : ℕ) (m : Pages) (area : Area) (n : ℕ) (t : Table) → m.on ≡ true → 12 ≤ m.size → m.size ≤ 64 → D ≡ data_pages m.size → Holds D m area n t
    → n < 3 → length t ≡ D → ProperTable t → BlankFrom D m area 0 → AllSettled m → Backed (shown m) t D
    → Ready D m (record { table = t; staged = []; area = area; number = n; next = 0 }) t
fresh_ready D m area n t on enough few large holds small long proper ahead still backed = record {
  power = on;
  enough = enough;
  few = few;
  large = large;
  holds = holds;
  small = small;
  makes = refl;
  room = omega arith;
  records = tt;
  long = long;
  proper = proper;
  ends = omega arith;
  ahead = ahead;
  areas = λ p _. still p;
  firm = λ i _ _. still (data_page_at i);
  backed = backed;
  blanks = λ i _ _. still (data_page_at i);
}

pub beside_then : (a : Area) (m n k : Pages) → Beside a m n → Beside a n k → Beside a m k
beside_then a m n k x y p out = y p out ∙ x p out

-- The other area once its entries are in, and once its trailer is in too.
module _ (D : ℕ) (small : D ≤ 448) (a : Area) (t : Table) (m₁ m₂ : Pages) (two : Lands m₁ (with_entries D a t (shown m₁)) m₂) where
  pub entries_settled : SettledEntries D m₂ (other_area a) t
  entries_settled j l = two.cells (entry_page_at (other_area a) j) ∙ ap settled (entry_there D small a t (shown m₁) j l)

  pub log_blank : BlankFrom D m₂ (other_area a) 0
  log_blank k _ l =
      two.cells (log_page_at D (other_area a) k)
      ∙ ap settled (blank_there D small a t (shown m₁) (entry_pages D + 1 + k) (log_page_at D (other_area a) k) (omega arith) (omega arith) (omega arith))

  module _ (n : ℕ) (m₃ : Pages) (three : Lands m₂ (with_trailer D a n (shown m₂)) m₃) where
    pub elsewhere_closed : (p : ℕ) → (p ≡ trailer_at D (other_area a) → ⊥) → m₃.cell p ≡ settled (shown m₂ p)
    elsewhere_closed p ne = three.cells p ∙ ap settled (trailer_elsewhere D small a t n (shown m₂) p ne)

    pub entries_closed : SettledEntries D m₃ (other_area a) t
    entries_closed j l = elsewhere_closed (entry_page_at (other_area a) j) (λ e. omega arith) ∙ ap (λ c. settled (reads c)) (entries_settled j l)

    pub log_closed : BlankFrom D m₃ (other_area a) 0
    log_closed k low l = elsewhere_closed (log_page_at D (other_area a) k) (λ e. omega arith) ∙ ap (λ c. settled (reads c)) (log_blank k low l)

    pub trailer_closed : m₃.cell (trailer_at D (other_area a)) ≡ settled (trailer_page (other_area a) D n)
    trailer_closed =
        three.cells (trailer_at D (other_area a)) ∙ ap settled (rw (eq-eqb (trailer_at D (other_area a)) (trailer_at D (other_area a)) refl))

-- A checkpoint of a ready chip with everything settled, part by part: cleared, filled, closed.
module _ (D : ℕ) (m : Pages) (v : Noted) (still : AllSettled m) where
  -- the data pages are settled as they were
  data_kept : (m' : Pages) → Beside v.area m m' → (i : ℕ) → m'.cell (data_page_at i) ≡ settled (shown m (data_page_at i))
  data_kept m' beside i = beside (data_page_at i) (data_outside (other_area v.area) i) ∙ settled_reads (m.cell (data_page_at i)) (still (data_page_at i))

  -- power fails while the table that was committed is the one that the chip holds
  old_left : (m' : Pages) → Beside v.area m m' → (t : Table) → Holds D m' v.area v.number t → OldOrNew D m v t m'
  old_left m' beside t h =
      left_first D m' (point t (shown m)) (point v.table (shown m)) (left_of_holds D m' v.area v.number t (shown m) h (λ i _ _. data_kept m' beside i))

  module _ (m₁ : Pages) (beside₁ : Beside v.area m m₁) (held : StillHolds v.area m m₁) where
    still_held : (t : Table) → Ready D m v t → Holds D m₁ v.area v.number t
    still_held t ready = held D v.number t (few_pages D m v t ready) ready.holds

    pub clear_failed : (f : Fault) → Fails m f m₁ → CutShort D m v f m₁
    clear_failed f fails = (fails, λ t ready. old_left m₁ beside₁ t (still_held t ready))

    module _ (one : Lands m (cleared v.area (shown m)) m₁) (m₂ : Pages) (beside₂ : Beside v.area m₁ m₂)
        (held₂ : (n : ℕ) (t : Table) → Holds D m₁ v.area n t → Holds D m₂ v.area n t) where
      beside : Beside v.area m m₂
      beside = beside_then v.area m m₁ m₂ beside₁ beside₂

      pub fill_failed : (f : Fault) → Fails m₁ f m₂ → CutShort D m v f m₂
      fill_failed f fails =
          (fails_then m m₁ m₂ f one.size fails, λ t ready. old_left m₂ beside t (held₂ v.number t (still_held t ready)))

      module _ (two : Lands m₁ (with_entries D v.area v.table (shown m₁)) m₂) (n : ℕ) (is : n ≡ next_number v.number) (m₃ : Pages)
          (beside₃ : Beside v.area m₂ m₃) where
        all_beside : Beside v.area m m₃
        all_beside = beside_then v.area m m₂ m₃ beside beside₃

        data_backed : (t : Table) → Ready D m v t → SettledBacked D m₂ v.table
        data_backed t ready i l marked = let (bytes, e) = ready.backed i l marked in (bytes, data_kept m₂ beside i ∙ ap settled e)

        pub close_failed : (f : Fault) → Fails m₂ f m₃ → TakesOver D v.area n (Err f) m₂ m₃ → CutShort D m v f m₃
        close_failed f fails over = (
          fails_then m m₁ m₃ f one.size (fails_then m₁ m₂ m₃ f two.size fails),
          λ t ready.
              let few = few_pages D m v t ready in
              left_of_either D m₃ v.area v.number t (other_area v.area) n v.table (shown m)
              (over v.number t v.table (held₂ v.number t (still_held t ready)) ready.small is ready.long ready.proper
              (entries_settled D few v.area v.table m₁ m₂ two) (log_blank D few v.area v.table m₁ m₂ two) (data_backed t ready))
              (λ i _ _. data_kept m₃ all_beside i) (λ i _ _. data_kept m₃ all_beside i),
        )

        module _ (three : Lands m₂ (with_trailer D v.area n (shown m₂)) m₃) where
          size : m₃.size ≡ m.size
          size = three.size ∙ two.size ∙ one.size

          closed_ready : TakesOver D v.area n (Ok tt) m₂ m₃ → (t : Table) → Ready D m v t → Ready D m₃ (checkpointed v) v.table
          closed_ready over t ready =
              let few = few_pages D m v t ready in
              let holds : Holds D m₃ (other_area v.area) n v.table =
              over v.number t v.table (held₂ v.number t (still_held t ready)) ready.small is ready.long ready.proper
              (entries_settled D few v.area v.table m₁ m₂ two) (log_blank D few v.area v.table m₁ m₂ two) (data_backed t ready) in
              fresh_ready D m₃ (other_area v.area) (next_number v.number) v.table three.power (omega (arith, size, ready.enough)) (omega (arith, size, ready.few))
              (ready.large ∙ ap data_pages (sym size)) (subst (λ z. Holds D m₃ (other_area v.area) z v.table) is holds)
              (omega arith) ready.long ready.proper (log_closed D few v.area v.table m₁ m₂ two n m₃ three) (lands_settled m₂ m₃ _ three)
              (λ i l marked. let (bytes, e) = ready.backed i l marked in (bytes, ap reads (data_kept m₃ all_beside i) ∙ e))

          closed_lands : D ≤ 448 → Lands m (checkpoint_pages D (other_area v.area) (next_number v.number) v.table (shown m)) m₃
          closed_lands few = record {
            power = three.power;
            size = size;
            cells = λ p.
                three.cells p
                ∙ ap settled (written D few v.area v.table n (shown m) (shown m₁) (shown m₂) p (λ out. ap reads (one.cells p) ∙ rw out) (ap reads (two.cells p))
                ∙ ap (λ z. checkpoint_pages D (other_area v.area) z v.table (shown m) p) is);
          }

          pub closed : D ≤ 448 → TakesOver D v.area n (Ok tt) m₂ m₃ → (v' : Noted) → v' ≡ checkpointed v
              → CommitsAs D m v (checkpoint_pages D (other_area v.area) (next_number v.number) v.table (shown m)) (checkpointed v) (Ok tt) m₃ v'
          closed few over v' e = (closed_lands few, e, λ t ready. subst (λ z. Ready D m₃ z v.table) (sym e) (closed_ready over t ready))

-- the journal after a checkpoint
pub noted_closed : (v : Noted) (staged : List Record) (area : Area) → staged ≡ [] → area ≡ other_area v.area
    → record { table = v.table; staged = staged; area = area; number = next_number v.number; next = 0 } ≡ checkpointed v
noted_closed v staged area none e = ap₂ noted_in none e
  where
    noted_in : List Record → Area → Noted
    noted_in rs z = record { table = v.table; staged = rs; area = z; number = next_number v.number; next = 0 }
