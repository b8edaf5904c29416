-- A reclaim: commit, drops, commit, erase, sync; where each step may fail, and what they make of the chip, the journal and the memory together.
use Rattle.std.proofs.Common.{◌≡◌, ℕ, ◌+◌, ◌-◌, ◌<◌, ◌≤◌, Bool, true, false, cond, ◌||◌, eqb, ltb, leb, [], length, get_or, Ok, Err, Result, sym, refl, ap, ◌∙◌, subst, ap₂, inl, inr, ⊎_elim, arith}
use mathlib.Core.Path.{fun_ext}
use Rattle.std.proofs.lemmas.List.{nil_from_length}
use Rattle.std.proofs.lemmas.Bool.{eq-eqb, ne_eqb, eqb-true, ltb-true, le-ltb, and_right, cases_eq, cond_both, cond-true, cond-false}
use Rattle.device.specs.declared.faults.Fault.{Fault}
use Rattle.device.specs.Cells.{reads, is_unsettled}
use Rattle.device.specs.Cells.Cell.{settled}
use Rattle.device.specs.Chips.{State, Pages, block_of, data_page_at, Erases, Syncs}
use Rattle.device.specs.Chips.State.{blank}
use Rattle.device.proofs.Chipwise.{chip_reads}
use Rattle.layout.specs.declared.areas.Area.{Area}
use Rattle.layout.specs.Geometry.{data_pages, log_pages, first_page, other_area, log_page_at}
use Rattle.layout.specs.Laws.{log_page}
use Rattle.table.specs.Tables.{Table, marked_at}
use Rattle.recovery.specs.Looking.{shown}
use Rattle.crash.specs.Crash.{Holds}
use Rattle.crash.proofs.Cuts.{first_small, safe_steps}
use Rattle.journal.specs.Drops.{in_block, spared, dropping}
use Rattle.journal.specs.Notes.{Noted, in_area, logged_pages, logged, checkpoint_page, checkpoint_pages, checkpointed, next_number, committed_pages, committed}
use Rattle.journal.specs.Points.{Point, point, Left, Either}
use Rattle.journal.specs.Ready.{Ready}
use Rattle.space.specs.Rooms.{ReclaimPoints, Keeps, Reclaims}
use Rattle.journal.specs.Steps.{AllSettled, Lands, Fails, Commits}
use Rattle.space.specs.Worlds.{world, is_blank, blank_page, flags, data_page_count, Fits, erased_pages, reclaimed}
use Rattle.space.specs.declared.blanks.Space.{Space}
use Rattle.journal.proofs.Allowed.{erase_allowed, erase_fails as allowed_erase_fails, erase_beside}
use Rattle.journal.proofs.Leaving.{Firm, left_more, left_of_holds}
use Rattle.journal.proofs.Settledness.{settled_as, lands_settled, lands_shown, sync_lands, sync_lost, sync_stays}
use Rattle.journal.proofs.Spared.{spared_in, dropping_ready}
use Rattle.journal.proofs.Turning.{SamePoint, left_turn}

-- Around an erase.

-- with everything settled, an erase of an erase block of the chip is served, or power fails in it
erase_lost : (m n : Pages) (b : ℕ) (f : Fault) → m.on ≡ true → b < m.size → AllSettled m → Erases m b (Err f) n → Fails m f n
erase_lost m n b f on inside h call = allowed_erase_fails m n b f (erase_allowed m b on inside (λ q _. h q)) call

-- whatever an erase answers, a settled page outside the block stays
pub erase_stays : (m n : Pages) (b : ℕ) (r : Result (Unit {0}) Fault) (q : ℕ) (x : State) → Erases m b r n → (block_of q ≡ b → ⊥) → m.cell q ≡ settled x → n.cell q ≡ settled x
erase_stays m n b r q x call ne was = erase_beside m n b r call q ne (ap is_unsettled was) ∙ was

pub erase_shown : (m n : Pages) (b : ℕ) → Erases m b (Ok tt) n → shown n ≡ erased_pages b (shown m)
erase_shown m n b call = fun_ext (λ q. let h = chip_reads.after_erase m n b call in ⊎_elim
    (λ (e : block_of q ≡ b). h.0 q e ∙ sym (cond-true (eqb (block_of q) b) blank (shown m q) (eq-eqb (block_of q) b e)))
    (λ (ne : block_of q ≡ b → ⊥). h.1 q ne ∙ sym (cond-false (eqb (block_of q) b) blank (shown m q) (ne_eqb (block_of q) b ne)))
    (cases_eq (block_of q) b))

-- The chip holds the table u, which marks no page of the erase block b, and everything is settled: the block is erased, and then the chip synced.
module _ (D : ℕ) (m : Pages) (v : Noted) (u : Table) (b : ℕ) (ready : Ready D m v u) (still : AllSettled m) (behind : 8 ≤ b) (within : b < m.size)
    (free : (i : ℕ) → block_of (data_page_at i) ≡ b → marked_at u i ≡ false) where
  small : D ≤ 448
  small = omega (arith, ready.large, ready.few)

  outside : (i : ℕ) → marked_at u i ≡ true → block_of (data_page_at i) ≡ b → ⊥
  outside i k e = let z : true ≡ false = sym k ∙ free i e in grind arith

  module _ (m₁ : Pages) (r : Result (Unit {0}) Fault) (erase : Erases m b r m₁) where
    erased_holds : Holds D m₁ v.area v.number u
    erased_holds = (safe_steps D small).data_block m m₁ v.area v.number u b r ready.holds behind free erase

    erased_firm : Firm D m₁ u (shown m)
    erased_firm i l k = erase_stays m m₁ b r (data_page_at i) (shown m (data_page_at i)) erase (outside i k) (settled_as m (data_page_at i) _ (still (data_page_at i)) refl)

    pub erased_left : Left D m₁ (λ x. x ≡ point u (shown m))
    erased_left = left_of_holds D m₁ v.area v.number u (shown m) erased_holds erased_firm

    module _ (m₂ : Pages) (r₂ : Result (Unit {0}) Fault) (sync : Syncs m₁ r₂ m₂) where
      synced_holds : Holds D m₂ v.area v.number u
      synced_holds = (safe_steps D small).syncing m₁ m₂ v.area v.number u r₂ erased_holds sync

      pub synced_left : Left D m₂ (λ x. x ≡ point u (shown m))
      synced_left =
          left_of_holds D m₂ v.area v.number u (shown m) synced_holds (λ i l k. sync_stays m₁ m₂ r₂ (data_page_at i) (shown m (data_page_at i)) sync (erased_firm i l k))

  module _ (m₁ m₂ : Pages) (erase : Erases m b (Ok tt) m₁) (sync : Syncs m₁ (Ok tt) m₂) where
    pub wiped_lands : Lands m (erased_pages b (shown m)) m₂
    wiped_lands =
        let h = sync_lands m₁ m₂ sync in
        record { power = h.power; size = h.size ∙ erase.2.size; cells = λ p. h.cells p ∙ ap (λ s. settled (s p)) (erase_shown m m₁ b erase) }

    wiped_stays : (p : ℕ) → (block_of p ≡ b → ⊥) → m₂.cell p ≡ m.cell p
    wiped_stays p ne =
        wiped_lands.cells p
        ∙ ap settled (cond-false (eqb (block_of p) b) blank (shown m p) (ne_eqb (block_of p) b ne))
        ∙ sym (settled_as m p (shown m p) (still p) refl)

    pub wiped_ready : v.table ≡ u → Ready D m₂ v u
    wiped_ready same = record {
      power = wiped_lands.power;
      enough = omega (arith, wiped_lands.size, ready.enough);
      few = omega (arith, wiped_lands.size, ready.few);
      large = ready.large ∙ ap data_pages (sym wiped_lands.size);
      holds = synced_holds m₁ (Ok tt) erase m₂ (Ok tt) sync;
      small = ready.small;
      makes = ready.makes;
      room = ready.room;
      records = ready.records;
      long = ready.long;
      proper = ready.proper;
      ends = ready.ends;
      ahead = λ k a l. wiped_stays (log_page_at D v.area k) (λ e. omega (arith, first_small v.area)) ∙ ready.ahead k a l;
      areas = λ p l. settled_all p;
      firm = λ i l k. settled_all (data_page_at i);
      backed = λ i l k.
          let (bytes, e) = ready.backed i l k in
          (bytes, ap reads (wiped_stays (data_page_at i) (outside i (subst (λ x. marked_at x i ≡ true) same k))) ∙ e);
      blanks = λ i l k. settled_all (data_page_at i);
    }
      where
        settled_all : AllSettled m₂
        settled_all = lands_settled m m₂ (erased_pages b (shown m)) wiped_lands

-- What a commit leaves of the journal and of the data pages.

committed_table : (D : ℕ) (v : Noted) → (committed D v).table ≡ v.table
committed_table D v =
    cond_both (eqb (length v.staged) 0) v _ (λ x. x.table ≡ v.table) (λ _. refl)
    (λ _. cond_both (ltb v.next (log_pages D)) (logged v) (checkpointed v) (λ x. x.table ≡ v.table) (λ _. refl) (λ _. refl))

pub committed_staged : (D : ℕ) (v : Noted) → (committed D v).staged ≡ []
committed_staged D v =
    cond_both (eqb (length v.staged) 0) v _ (λ x. x.staged ≡ []) (λ e. nil_from_length v.staged (eqb-true (length v.staged) 0 e))
    (λ _. cond_both (ltb v.next (log_pages D)) (logged v) (checkpointed v) (λ x. x.staged ≡ []) (λ _. refl) (λ _. refl))

logged_data : (D : ℕ) (v : Noted) (pages : ℕ → State) (i : ℕ) → v.next < log_pages D → logged_pages D v pages (data_page_at i) ≡ pages (data_page_at i)
logged_data D v pages i l =
    cond-false (eqb (data_page_at i) (log_page_at D v.area v.next)) (log_page v.staged) (pages (data_page_at i))
    (ne_eqb (data_page_at i) (log_page_at D v.area v.next) (λ e. omega (arith, first_small v.area)))

checkpoint_data : (D : ℕ) (area : Area) (n : ℕ) (t : Table) (pages : ℕ → State) (i : ℕ) → checkpoint_pages D area n t pages (data_page_at i) ≡ pages (data_page_at i)
checkpoint_data D area n t pages i =
    cond-false (in_area area (data_page_at i)) (checkpoint_page D area n t (data_page_at i - first_page area)) (pages (data_page_at i))
    (and_right (leb (first_page area) (data_page_at i)) (ltb (data_page_at i) (first_page area + 32)) (le-ltb (data_page_at i) (first_page area + 32) (omega (arith, first_small area))))

committed_data : (D : ℕ) (v : Noted) (pages : ℕ → State) (i : ℕ) → committed_pages D v pages (data_page_at i) ≡ pages (data_page_at i)
committed_data D v pages i =
    let Same : (ℕ → State) → Type 0 = λ s. s (data_page_at i) ≡ pages (data_page_at i) in
    cond_both (eqb (length v.staged) 0) pages _ Same (λ _. refl)
    (λ _. cond_both (ltb v.next (log_pages D)) (logged_pages D v pages) _ Same (λ l. logged_data D v pages i (ltb-true v.next (log_pages D) l))
    (λ _. checkpoint_data D (other_area v.area) (next_number v.number) v.table pages i))

-- a step behind one that was served fails as the whole
fails_after : (m m₁ n : Pages) (f : Fault) → m₁.size ≡ m.size → Fails m₁ f n → Fails m f n
fails_after m m₁ n f e h = record { lost = h.lost; size = h.size ∙ e }

-- Where a reclaim fails: recovery finds the table committed before, the one in memory, or that without the erase block.
abbrev pub ReclaimFails : ℕ → ℕ → Pages → Noted → Space → Fault → Pages → Type 0
ReclaimFails D b m v sp f n = Fails m f n × ((t : Table) → Keeps D m v sp t → Left D n (ReclaimPoints b t (world m v sp)))

pub commit_fails : (D b : ℕ) (m m₁ : Pages) (v v₁ : Noted) (sp : Space) (f : Fault) → Commits D m v (Err f) m₁ v₁ → ReclaimFails D b m v sp f m₁
commit_fails D b m m₁ v v₁ sp f (fails, left) =
    (fails, λ t k. left_more D m₁ (Either (point t (shown m)) (point v.table (shown m))) (ReclaimPoints b t (world m v sp)) (turn t) (left t k.ready))
  where
    turn : (t : Table) (x : Point) → Either (point t (shown m)) (point v.table (shown m)) x → ReclaimPoints b t (world m v sp) x
    turn t x (inl e) = inl e
    turn t x (inr e) = inr (inl e)

-- Behind the first commit, with the drops staged.
module _ (D b : ℕ) (m m₁ : Pages) (v v₁ v₂ : Noted) (sp : Space) (first : Commits D m v (Ok tt) m₁ v₁) (after : v₂ ≡ dropping b v₁) where
  table₂ : v₂.table ≡ spared v.table b
  table₂ = ap (λ x. x.table) after ∙ ap (λ x. spared x.table b) first.1 ∙ ap (λ x. spared x b) (committed_table D v)

  data₁ : (i : ℕ) → shown m₁ (data_page_at i) ≡ shown m (data_page_at i)
  data₁ i = ap (λ s. s (data_page_at i)) (lands_shown m m₁ _ first.0) ∙ committed_data D v (shown m) i

  pub dropped_ready : (t : Table) → Ready D m v t → Ready D m₁ v₂ v.table
  dropped_ready t h =
      subst (λ x. Ready D m₁ x v.table) (sym after) (dropping_ready D m₁ v₁ v.table b (first.2 t h) (ap (λ x. x.staged) first.1 ∙ committed_staged D v))

  -- the number of data pages as the journal has it then
  pub dropped_requires : (D₂ : ℕ) → D₂ ≡ D → (t : Table) × Keeps D m v sp t → (t : Table) × Ready D₂ m₁ v₂ t
  dropped_requires D₂ same (t, k) = (v.table, subst (λ d. Ready d m₁ v₂ v.table) (sym same) (dropped_ready t k.ready))

  pub second_fails : (D₂ : ℕ) → D₂ ≡ D → (f : Fault) (m₂ : Pages) (v₃ : Noted) → Commits D₂ m₁ v₂ (Err f) m₂ v₃ → ReclaimFails D b m v sp f m₂
  second_fails D₂ same f m₂ v₃ call =
      let (fails, left) = subst (λ d. Commits d m₁ v₂ (Err f) m₂ v₃) same call in (
        fails_after m m₁ m₂ f first.0.size fails,
        λ t k. left_turn D m₂ (Either (point v.table (shown m₁)) (point v₂.table (shown m₁))) (ReclaimPoints b t (world m v sp)) (turn t) (left v.table (dropped_ready t k.ready)),
      )
    where
      turn : (t : Table) (x : Point) → Either (point v.table (shown m₁)) (point v₂.table (shown m₁)) x
          → (y : Point) × ReclaimPoints b t (world m v sp) y × SamePoint D x y
      turn t x (inl e) =
          (point v.table (shown m), inr (inl refl), record { table = ap (λ y. y.table) (sym e); pages = λ i _ _. ap (λ y. y.pages (data_page_at i)) e ∙ data₁ i })
      turn t x (inr e) = (
        point (spared v.table b) (shown m),
        inr (inr refl),
        record { table = sym table₂ ∙ ap (λ y. y.table) (sym e); pages = λ i _ _. ap (λ y. y.pages (data_page_at i)) e ∙ data₁ i },
      )

-- Both commits are served.
pub record CommittedTwice (D b : ℕ) (m : Pages) (v : Noted) (sp : Space) (m₂ : Pages) (v₃ : Noted) : Type 0 where
  between : Pages
  before : Noted
  staged : Noted
  first : Commits D m v (Ok tt) between before
  after : staged ≡ dropping b before
  second : Commits D between staged (Ok tt) m₂ v₃
  behind : 8 ≤ b
  within : b < m.size
  base : Table
  keeps : Keeps D m v sp base

pub committed_twice : (blocks b : ℕ) (m m₁ m₂ : Pages) (v v₁ v₂ v₃ : Noted) (sp : Space) → 8 ≤ b → b < blocks → (t : Table) × Keeps (data_pages blocks) m v sp t
    → Commits (data_pages blocks) m v (Ok tt) m₁ v₁ → v₂ ≡ dropping b v₁ → (D₂ : ℕ) → D₂ ≡ data_pages blocks → Commits D₂ m₁ v₂ (Ok tt) m₂ v₃
    → CommittedTwice (data_pages blocks) b m v sp m₂ v₃
committed_twice blocks b m m₁ m₂ v v₁ v₂ v₃ sp behind within (t, k) first after D₂ same second = record {
  between = m₁;
  before = v₁;
  staged = v₂;
  first = first;
  after = after;
  second = subst (λ d. Commits d m₁ v₂ (Ok tt) m₂ v₃) same second;
  behind = behind;
  within = omega (arith, k.ready.large, k.ready.enough);
  base = t;
  keeps = k;
}

module _ (D b : ℕ) (m m₂ : Pages) (v v₃ : Noted) (sp : Space) (h : CommittedTwice D b m v sp m₂ v₃) where
  -- the table without the block, which the chip holds now
  abbrev u : Table
  u = h.staged.table

  table_is : u ≡ spared v.table b
  table_is = table₂ D b m h.between v h.before h.staged sp h.first h.after

  data₂ : (i : ℕ) → shown m₂ (data_page_at i) ≡ shown m (data_page_at i)
  data₂ i =
      ap (λ s. s (data_page_at i)) (lands_shown h.between m₂ _ h.second.0)
      ∙ committed_data D h.staged (shown h.between) i
      ∙ data₁ D b m h.between v h.before h.staged sp h.first h.after i

  size₂ : m₂.size ≡ m.size
  size₂ = h.second.0.size ∙ h.first.0.size

  within₂ : b < m₂.size
  within₂ = omega (arith, size₂, h.within)

  settled₂ : AllSettled m₂
  settled₂ = lands_settled h.between m₂ _ h.second.0

  ready₂ : (t : Table) → Ready D m v t → Ready D m₂ v₃ u
  ready₂ t k = h.second.2 v.table (dropped_ready D b m h.between v h.before h.staged sp h.first h.after t k)

  free₂ : (i : ℕ) → block_of (data_page_at i) ≡ b → marked_at u i ≡ false
  free₂ i e = ap (λ x. marked_at x i) table_is ∙ spared_in v.table b i e

  -- what recovery finds wherever a step fails from here on
  turn₂ : (t : Table) (n : Pages) → Left D n (λ x. x ≡ point u (shown m₂)) → Left D n (ReclaimPoints b t (world m v sp))
  turn₂ t n left =
      left_turn D n (λ x. x ≡ point u (shown m₂)) (ReclaimPoints b t (world m v sp))
      (λ x e. (
        point (spared v.table b) (shown m),
        inr (inr refl),
        record { table = sym table_is ∙ ap (λ y. y.table) (sym e); pages = λ i _ _. ap (λ y. y.pages (data_page_at i)) e ∙ data₂ i },
      )) left

  pub erase_fails : (f : Fault) (m₃ : Pages) → Erases m₂ b (Err f) m₃ → ReclaimFails D b m v sp f m₃
  erase_fails f m₃ erase = (
    fails_after m m₂ m₃ f size₂ (erase_lost m₂ m₃ b f h.second.0.power within₂ settled₂ erase),
    λ t k. turn₂ t m₃ (erased_left D m₂ v₃ u b (ready₂ t k.ready) settled₂ h.behind within₂ free₂ m₃ (Err f) erase),
  )

  module _ (m₃ : Pages) (erase : Erases m₂ b (Ok tt) m₃) where
    pub sync_fails : (f : Fault) (m₄ : Pages) → Syncs m₃ (Err f) m₄ → ReclaimFails D b m v sp f m₄
    sync_fails f m₄ sync = (
      fails_after m m₃ m₄ f (erase.2.size ∙ size₂) (sync_lost m₃ m₄ f erase.2.power sync),
      λ t k. turn₂ t m₄ (synced_left D m₂ v₃ u b (ready₂ t k.ready) settled₂ h.behind within₂ free₂ m₃ (Ok tt) erase m₄ (Err f) sync),
    )

    module _ (m₄ : Pages) (sync : Syncs m₃ (Ok tt) m₄) where
      lands : Lands m₂ (erased_pages b (shown m₂)) m₄
      lands = wiped_lands D m₂ v₃ u b (ready₂ h.base h.keeps.ready) settled₂ h.behind within₂ free₂ m₃ m₄ erase sync

      table₃ : v₃.table ≡ u
      table₃ = ap (λ x. x.table) h.second.1 ∙ committed_table D h.staged

      ready₄ : (t : Table) → Ready D m v t → Ready D m₄ v₃ v₃.table
      ready₄ t k =
          subst (Ready D m₄ v₃) (sym table₃) (wiped_ready D m₂ v₃ u b (ready₂ t k) settled₂ h.behind within₂ free₂ m₃ m₄ erase sync table₃)

      blank₄ : (i : ℕ) → blank_page (shown m₄) i ≡ in_block b i || blank_page (shown m) i
      blank₄ i =
          ap (λ s. blank_page s i) (lands_shown m₂ m₄ _ lands) ∙ go (in_block b i) (shown m₂ (data_page_at i)) ∙ ap (λ x. in_block b i || is_blank x) (data₂ i)
        where
          go : (c : Bool) (x : State) → is_blank (cond c blank x) ≡ c || is_blank x
          go true x = refl
          go false x = refl

      staged_is : h.staged ≡ dropping b (committed D v)
      staged_is = h.after ∙ ap (dropping b) h.first.1

      pages₄ : shown m₄ ≡ (reclaimed D b (world m v sp)).pages
      pages₄ =
          lands_shown m₂ m₄ _ lands
          ∙ ap (erased_pages b) (lands_shown h.between m₂ _ h.second.0 ∙ ap₂ (committed_pages D) staged_is (lands_shown m h.between _ h.first.0))

      module _ (sp' : Space) (long : data_page_count sp' ≡ data_page_count sp)
          (each : (i : ℕ) → i < data_page_count sp → get_or (flags sp') i false ≡ in_block b i || get_or (flags sp) i false) (stays : sp'.cursor ≡ sp.cursor) where
        fits₄ : Fits D m sp → Fits D m₄ sp'
        fits₄ k = record {
          long = long ∙ k.long;
          each = λ i l. each i (omega (arith, k.long)) ∙ ap (λ x. in_block b i || x) (k.each i l) ∙ sym (blank₄ i);
        }

        world₄ : world m₄ v₃ sp' ≡ reclaimed D b (world m v sp)
        world₄ =
            ap (λ s. record { pages = s; noted = v₃; cursor = sp'.cursor.0 }) pages₄
            ∙ ap (λ x. record { pages = (reclaimed D b (world m v sp)).pages; noted = x; cursor = sp'.cursor.0 }) (h.second.1 ∙ ap (committed D) staged_is)
            ∙ ap (λ k. record { pages = (reclaimed D b (world m v sp)).pages; noted = (reclaimed D b (world m v sp)).noted; cursor = k.0 }) stays

        pub reclaims : Reclaims D b m v sp (Ok tt) m₄ v₃ sp'
        reclaims = (lands.size ∙ size₂, lands_settled m₂ m₄ _ lands, world₄, λ t k. record { ready = ready₄ t k.ready; fits = fits₄ k.fits })
