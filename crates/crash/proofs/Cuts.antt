-- Each step of a commit, a checkpoint and a reclaim keeps the table that the chip holds, or leaves the old one or the new one.
use Rattle.std.proofs.Common.{◌≡◌, ℕ, zero, suc, ◌+◌, ◌*◌, ◌%◌, ◌<◌, ◌≤◌, true, false, ◌⊎◌, List, length, Some, None, Ok, Result, sym, refl, ap, ◌∙◌, subst, inl, inr, ⊎_elim, arith}
use Rattle.std.proofs.lemmas.List.{take_all}
use Rattle.std.proofs.lemmas.Bool.{cases_eq, true≢false}
use Rattle.device.specs.declared.faults.Fault.{Fault}
use Rattle.device.specs.Cells.{reads, Leaves}
use Rattle.device.specs.Cells.Cell.{settled}
use Rattle.device.specs.Chips.{Note, State, Pages, Tears, block_of, data_page_at, Syncs, Programs, program_refusal, programmed, Erases, erase_refusal, erased_block}
use Rattle.device.specs.Chips.State.{blank, torn, held}
use Rattle.device.proofs.Chipwise.{chip_cuts, chip_reads, program_blank, erase_free}
use Rattle.device.proofs.Settling.{early_settled}
use Rattle.device.specs.Calls.{wanted}
use Rattle.layout.specs.declared.areas.Area.{Area}
use Rattle.layout.specs.declared.areas.Area.TheVariants.{One, Two}
use Rattle.layout.specs.declared.records.Record.{Record}
use Rattle.layout.specs.Geometry.{first_page, other_area, entry_pages, log_pages, entry_page_at, trailer_at, log_page_at}
use Rattle.layout.specs.Pages.{entry_note, entry_data, trailer_note, trailer_data, log_note, log_data, ProperLog}
use Rattle.table.specs.Tables.{Table, marked_at, replayed, ProperTable}
use Rattle.recovery.specs.Recovering.{Counts, Numbered, Active, Entered, LogStep, Logged, Backed}
use Rattle.crash.specs.Crash.{Finds, Holds, HoldsEither, SettledBacked, BlankFrom, SettledEntries, SafeSteps}
use Rattle.crash.proofs.Ways.{settled_way, wanted_cases, before, before_here, before_elsewhere, before_leaves, page_ways, others_settled, unerased, unerased_elsewhere, unerased_leaves, block_ways}

pub first_small : (area : Area) → first_page area ≤ 32
first_small One = omega arith
first_small Two = omega arith

-- pages of the two areas are apart
areas_apart : (area : Area) (i j : ℕ) → i < 32 → j < 32 → first_page area + i ≡ first_page (other_area area) + j → ⊥
areas_apart One i j h k e = omega arith
areas_apart Two i j h k e = omega arith

other_other : (area : Area) → other_area (other_area area) ≡ area
other_other One = refl
other_other Two = refl

module _ (D : ℕ) (small : D ≤ 448) where
  -- A page of an area by its offset.
  at : (s s₀ : ℕ → State) (area : Area) → ((k : ℕ) → k < 32 → s (first_page area + k) ≡ s₀ (first_page area + k)) → (k q : ℕ) → k < 32 → q ≡ first_page area + k → s q ≡ s₀ q
  at s s₀ area h k q l e = rw e (h k l)

  -- the log reads the same where its pages do
  pub logged_same : (s s₀ : ℕ → State) (area : Area) (j : ℕ) → ((i : ℕ) → i < j → s (log_page_at D area i) ≡ s₀ (log_page_at D area i)) → (t u : Table) (m : ℕ)
      → Logged D s₀ area j t u m → Logged D s area j t u m
  logged_same s s₀ area zero e t u m h = h
  logged_same s s₀ area (suc j) e t u m (v, n, h, step) =
      (v, n, logged_same s s₀ area j (λ i l. e i (omega arith)) t v n h, subst (λ z. LogStep z j v n u m) (sym (e j (omega arith))) step)

  -- blank pages at the end of the log change nothing
  pub logged_down : (s : ℕ → State) (area : Area) (k j : ℕ) → j ≤ k → ((i : ℕ) → j ≤ i → i < k → s (log_page_at D area i) ≡ blank) → (t u : Table) (m : ℕ)
      → Logged D s area k t u m → Logged D s area j t u m
  logged_down s area zero j l e t u m h = let z : zero ≡ j = omega arith in subst (λ x. Logged D s area x t u m) z h
  logged_down s area (suc k) j l e t u m (v, n, h, step) =
      let deeper : j ≤ k → Logged D s area j t v n = λ below. logged_down s area k j below (λ i a b. e i a (omega arith)) t v n h in
      ⊎_elim
      (λ (z : j ≡ suc k). rw z (v, n, h, step))
      (λ (ne : j ≡ suc k → ⊥).
      let below : j ≤ k = omega arith in
      let same : (u ≡ v) × (m ≡ n) = subst (λ x. LogStep x k v n u m) (e k below (omega arith)) step in
      rw (same.0, same.1) (deeper below))
      (cases_eq j (suc k))

  pub logged_up : (s : ℕ → State) (area : Area) (k j : ℕ) → j ≤ k → ((i : ℕ) → j ≤ i → i < k → s (log_page_at D area i) ≡ blank) → (t u : Table) (m : ℕ)
      → Logged D s area j t u m → Logged D s area k t u m
  logged_up s area zero j l e t u m h = let z : j ≡ zero = omega arith in subst (λ x. Logged D s area x t u m) z h
  logged_up s area (suc k) j l e t u m h =
      let deeper : j ≤ k → Logged D s area k t u m = λ below. logged_up s area k j below (λ i a b. e i a (omega arith)) t u m h in
      ⊎_elim
      (λ (z : j ≡ suc k). subst (λ x. Logged D s area x t u m) z h)
      (λ (ne : j ≡ suc k → ⊥).
      let below : j ≤ k = omega arith in
      (u, m, deeper below, subst (λ x. LogStep x k u m u m) (sym (e k below (omega arith))) (refl, refl)))
      (cases_eq j (suc k))

  -- What recovery looks at is the same in both: the area, the other area's trailer or that it does not count, and the data pages that the table marks.
  record Agrees (s s₀ : ℕ → State) (area : Area) (t : Table) : Type 0 where
    inside : (k : ℕ) → k < 32 → s (first_page area + k) ≡ s₀ (first_page area + k)
    other : (s (trailer_at D (other_area area)) ≡ s₀ (trailer_at D (other_area area))) ⊎ (Counts (s (trailer_at D (other_area area))) → ⊥)
    marked : (i : ℕ) → i < D → marked_at t i ≡ true → s (data_page_at i) ≡ s₀ (data_page_at i)

  log_inside : (s s₀ : ℕ → State) (area : Area) (t : Table) → Agrees s s₀ area t → (i : ℕ) → i < log_pages D → s (log_page_at D area i) ≡ s₀ (log_page_at D area i)
  log_inside s s₀ area t g i l = at s s₀ area g.inside (entry_pages D + 1 + i) (log_page_at D area i) (omega arith) (omega arith)

  trailer_inside : (s s₀ : ℕ → State) (area : Area) (t : Table) → Agrees s s₀ area t → s (trailer_at D area) ≡ s₀ (trailer_at D area)
  trailer_inside s s₀ area t g = at s s₀ area g.inside (entry_pages D) (trailer_at D area) (omega arith) refl

  active_same : (s s₀ : ℕ → State) (area : Area) (n : ℕ) (t : Table) → Agrees s s₀ area t → Active D s₀ area n → Active D s area n
  active_same s s₀ area n t g h = record {
    own = subst (λ z. Numbered D area z n) (sym (trailer_inside s s₀ area t g)) h.own;
    other = go g.other h.other;
  }
    where
      go : (s (trailer_at D (other_area area)) ≡ s₀ (trailer_at D (other_area area))) ⊎ (Counts (s (trailer_at D (other_area area))) → ⊥)
          → (Counts (s₀ (trailer_at D (other_area area))) → ⊥) ⊎ ((b : ℕ) × Numbered D (other_area area) (s₀ (trailer_at D (other_area area))) b × (n ≡ (b + 1) % 3))
          → (Counts (s (trailer_at D (other_area area))) → ⊥) ⊎ ((b : ℕ) × Numbered D (other_area area) (s (trailer_at D (other_area area))) b × (n ≡ (b + 1) % 3))
      go (inr not) h = inl not
      go (inl e) (inl not) = inl (λ c. not (subst Counts e c))
      go (inl e) (inr (b, x, y)) = inr (b, subst (λ z. Numbered D (other_area area) z b) (sym e) x, y)

  entered_same : (s s₀ : ℕ → State) (area : Area) (t u : Table) → Agrees s s₀ area t → Entered D s₀ area (entry_pages D) u → Entered D s area (entry_pages D) u
  entered_same s s₀ area t u g h = record {
    long = h.long;
    pages = λ i l. at s s₀ area g.inside i (entry_page_at area i) (omega arith) refl ∙ h.pages i l;
    proper = h.proper;
    distinct = h.distinct;
  }

  backed_same : (s s₀ : ℕ → State) (area : Area) (t : Table) → Agrees s s₀ area t → Backed s₀ t D → Backed s t D
  backed_same s s₀ area t g h i l k = let (bytes, e) = h i l k in (bytes, g.marked i l k ∙ e)

  finds_same : (s s₀ : ℕ → State) (area : Area) (n : ℕ) (t : Table) → Agrees s s₀ area t → Finds D s₀ area n t → Finds D s area n t
  finds_same s s₀ area n t g (next, h) = (
    next,
    record {
      active = active_same s s₀ area n t g h.active;
      base = h.base;
      entries = entered_same s s₀ area t h.base g h.entries;
      log = logged_same s s₀ area (log_pages D) (log_inside s s₀ area t g) h.base t next h.log;
      backed = backed_same s s₀ area t g h.backed;
    },
  )

  -- A page changes that is neither in the area nor the other area's trailer nor a data page that the table marks.
  agrees_beside : (s s₀ : ℕ → State) (area : Area) (t : Table) (p : ℕ) → ((q : ℕ) → (q ≡ p → ⊥) → s q ≡ s₀ q)
      → ((k : ℕ) → k < 32 → first_page area + k ≡ p → ⊥) → (trailer_at D (other_area area) ≡ p → ⊥) → ((i : ℕ) → i < D → marked_at t i ≡ true → data_page_at i ≡ p → ⊥)
      → Agrees s s₀ area t
  agrees_beside s s₀ area t p e a b c = record {
    inside = λ k l. e (first_page area + k) (a k l);
    other = inl (e (trailer_at D (other_area area)) b);
    marked = λ i l k. e (data_page_at i) (c i l k);
  }

  trailer_below : (area : Area) → trailer_at D area < 64
  trailer_below area = omega (arith, first_small area)

  data_apart : (t : Table) (i j : ℕ) → marked_at t i ≡ false → marked_at t j ≡ true → data_page_at j ≡ data_page_at i → ⊥
  data_apart t i j a b e = let z : j ≡ i = omega arith in true≢false (sym b ∙ ap (marked_at t) z ∙ a)

  data_page : (m m' : Pages) (area : Area) (n : ℕ) (t : Table) (i : ℕ) (note : Note) (bytes : List ℕ) (r : Result (Unit {0}) Fault)
      → Holds D m area n t → marked_at t i ≡ false → Programs m (data_page_at i) note bytes r m' → Holds D m' area n t
  data_page m m' area n t i note bytes r h free call s l = go (wanted_cases _ m _ s (chip_cuts.at_program m m' (data_page_at i) note bytes r s call l))
    where
      go : Leaves Tears m.cell s ⊎ ((program_refusal m (data_page_at i) (length bytes) ≡ None) × Leaves Tears (programmed m (data_page_at i) note bytes) s) → Finds D s area n t
      go (inl same) = h s same
      go (inr (e, w)) =
          let p = data_page_at i in
          let was = program_blank m p (length bytes) e in
          finds_same s (before m p note bytes was s w) area n t
          (agrees_beside s (before m p note bytes was s w) area t p (before_elsewhere m p note bytes was s w)
          (λ k x y. omega (arith, first_small area)) (λ x. omega (arith, trailer_below (other_area area))) (λ j x y z. data_apart t i j free y z))
          (h (before m p note bytes was s w) (before_leaves m p note bytes was s w))

  other_entry : (m m' : Pages) (area : Area) (n : ℕ) (t : Table) (j : ℕ) (note : Note) (bytes : List ℕ) (r : Result (Unit {0}) Fault)
      → Holds D m area n t → j < entry_pages D → Programs m (entry_page_at (other_area area) j) note bytes r m' → Holds D m' area n t
  other_entry m m' area n t j note bytes r h inside call s l =
      go (wanted_cases _ m _ s (chip_cuts.at_program m m' (entry_page_at (other_area area) j) note bytes r s call l))
    where
      go : Leaves Tears m.cell s ⊎ ((program_refusal m (entry_page_at (other_area area) j) (length bytes) ≡ None) × Leaves Tears (programmed m (entry_page_at (other_area area) j) note bytes) s) → Finds D s area n t
      go (inl same) = h s same
      go (inr (e, w)) =
          let p = entry_page_at (other_area area) j in
          let was = program_blank m p (length bytes) e in
          finds_same s (before m p note bytes was s w) area n t
          (agrees_beside s (before m p note bytes was s w) area t p (before_elsewhere m p note bytes was s w)
          (λ k x y. areas_apart area k j x (omega arith) y) (λ x. omega arith) (λ i x y z. omega (arith, first_small (other_area area))))
          (h (before m p note bytes was s w) (before_leaves m p note bytes was s w))

  blocks_apart : (area : Area) (b k : ℕ) → block_of (first_page (other_area area)) ≤ b → b < block_of (first_page (other_area area)) + 4 → k < 32 → block_of (first_page area + k) ≡ b → ⊥
  blocks_apart One b k x y l e = omega arith
  blocks_apart Two b k x y l e = omega arith

  erase_step : (m m' : Pages) (area : Area) (n : ℕ) (t : Table) (b : ℕ) (r : Result (Unit {0}) Fault) → Holds D m area n t
      → ((k : ℕ) → k < 32 → block_of (first_page area + k) ≡ b → ⊥) → ((i : ℕ) → i < D → marked_at t i ≡ true → block_of (data_page_at i) ≡ b → ⊥)
      → Erases m b r m' → Holds D m' area n t
  erase_step m m' area n t b r h apart unmarked call s l = go (wanted_cases _ m _ s (chip_cuts.at_erase m m' b r s call l))
    where
      uncounted : (x : State) → (x ≡ blank) ⊎ (x ≡ torn) → Counts x → ⊥
      uncounted x (inl e) c = subst Counts e c
      uncounted x (inr e) c = subst Counts e c

      go : Leaves Tears m.cell s ⊎ ((erase_refusal m b ≡ None) × Leaves Tears (erased_block m b) s) → Finds D s area n t
      go (inl same) = h s same
      go (inr (e, w)) =
          finds_same s (unerased m b s w) area n t
          (record {
            inside = λ k x. unerased_elsewhere m b s w (first_page area + k) (apart k x);
            other = ⊎_elim
                (λ (i : block_of (trailer_at D (other_area area)) ≡ b). ⊎_elim (λ x. inl x) (λ x. inr (uncounted _ x))
                (block_ways m b s w (trailer_at D (other_area area)) i (erase_free m b e (trailer_at D (other_area area)) i)))
                (λ ne. inl (unerased_elsewhere m b s w (trailer_at D (other_area area)) ne))
                (cases_eq (block_of (trailer_at D (other_area area))) b);
            marked = λ i x y. unerased_elsewhere m b s w (data_page_at i) (unmarked i x y);
          })
          (h (unerased m b s w) (unerased_leaves m b s w))

  data_block : (m m' : Pages) (area : Area) (n : ℕ) (t : Table) (b : ℕ) (r : Result (Unit {0}) Fault)
      → Holds D m area n t → 8 ≤ b → ((i : ℕ) → block_of (data_page_at i) ≡ b → marked_at t i ≡ false) → Erases m b r m' → Holds D m' area n t
  data_block m m' area n t b r h behind free call =
      erase_step m m' area n t b r h (λ k x y. omega (arith, first_small area)) (λ i x y z. true≢false (sym y ∙ free i z)) call

  other_block : (m m' : Pages) (area : Area) (n : ℕ) (t : Table) (b : ℕ) (r : Result (Unit {0}) Fault)
      → Holds D m area n t → block_of (first_page (other_area area)) ≤ b → b < block_of (first_page (other_area area)) + 4 → Erases m b r m' → Holds D m' area n t
  other_block m m' area n t b r h low high call =
      erase_step m m' area n t b r h (λ k x y. blocks_apart area b k low high x y) (λ i x y z. omega (arith, first_small (other_area area))) call

  entry_cover : D ≤ 64 * entry_pages D
  entry_cover = omega arith

  pub entered_whole : (s : ℕ → State) (area : Area) (t : Table) → length t ≡ D → ProperTable t
      → ((j : ℕ) → j < entry_pages D → s (entry_page_at area j) ≡ held (entry_note j) (entry_data t j)) → Entered D s area (entry_pages D) t
  entered_whole s area t long ok pages = record {
    long = long;
    pages = pages;
    proper = rw (take_all (64 * entry_pages D) t (omega (arith, entry_cover))) ok.entries;
    distinct = λ i j a _ _ x y. ok.distinct i j a x y;
  }

  pub log_blank : (s : ℕ → State) (area : Area) (t : Table) → ((i : ℕ) → i < log_pages D → s (log_page_at D area i) ≡ blank) → Logged D s area (log_pages D) t t 0
  log_blank s area t e = logged_up s area (log_pages D) 0 (omega arith) (λ i _ l. e i l) t t 0 (refl, refl)

  -- a checkpoint in area `b` whose trailer is there, one number on from that of the other area `a`
  new_checkpoint : (s : ℕ → State) (a b : Area) (n : ℕ) (u : Table) → other_area b ≡ a → n < 3 → Numbered D a (s (trailer_at D a)) n
      → s (trailer_at D b) ≡ held (trailer_note D ((n + 1) % 3)) (trailer_data b D) → Entered D s b (entry_pages D) u
      → ((i : ℕ) → i < log_pages D → s (log_page_at D b i) ≡ blank) → Backed s u D → Finds D s b ((n + 1) % 3) u
  new_checkpoint s a b n u e small own trailer entries log backed = (
    0,
    record {
      active = record {
        own = record { small = omega arith; is = trailer };
        other = inr (n, rw e own, refl);
      };
      base = u;
      entries = entries;
      log = log_blank s b u log;
      backed = backed;
    },
  )

  pub backed_settled : (m : Pages) (u : Table) (s : ℕ → State) → ((i : ℕ) (x : State) → i < D → m.cell (data_page_at i) ≡ settled x → s (data_page_at i) ≡ x)
      → SettledBacked D m u → Backed s u D
  backed_settled m u s way h i l k = let (bytes, e) = h i l k in (bytes, way i _ l e)

  -- Around the program of the other area's trailer, with its page blank before.
  module _ (m : Pages) (area : Area) (n : ℕ) (t u : Table) (h : Holds D m area n t) (few : n < 3) (long : length u ≡ D) (ok : ProperTable u)
      (entries : SettledEntries D m (other_area area) u) (log : BlankFrom D m (other_area area) 0) (backed : SettledBacked D m u)
      (was : m.cell (trailer_at D (other_area area)) ≡ settled blank) (s : ℕ → State)
      (w : Leaves Tears (programmed m (trailer_at D (other_area area)) (trailer_note D ((n + 1) % 3)) (trailer_data (other_area area) D)) s) where
    abbrev s₀ : ℕ → State
    s₀ = before m (trailer_at D (other_area area)) (trailer_note D ((n + 1) % 3)) (trailer_data (other_area area) D) was s w

    elsewhere : (q : ℕ) → (q ≡ trailer_at D (other_area area) → ⊥) → s q ≡ s₀ q
    elsewhere = before_elsewhere m (trailer_at D (other_area area)) (trailer_note D ((n + 1) % 3)) (trailer_data (other_area area) D) was s w

    settled_there : (q : ℕ) (x : State) → (q ≡ trailer_at D (other_area area) → ⊥) → m.cell q ≡ settled x → s q ≡ x
    settled_there = others_settled m (trailer_at D (other_area area)) (trailer_note D ((n + 1) % 3)) (trailer_data (other_area area) D) was s w

    old : Finds D s₀ area n t
    old = h s₀ (before_leaves m (trailer_at D (other_area area)) (trailer_note D ((n + 1) % 3)) (trailer_data (other_area area) D) was s w)

    inside_same : (k : ℕ) → k < 32 → s (first_page area + k) ≡ s₀ (first_page area + k)
    inside_same k l = elsewhere (first_page area + k) (λ e. areas_apart area k (entry_pages D) l (omega arith) e)

    data_same : (i : ℕ) → s (data_page_at i) ≡ s₀ (data_page_at i)
    data_same i = elsewhere (data_page_at i) (λ e. omega (arith, trailer_below (other_area area)))

    still_old : (s (trailer_at D (other_area area)) ≡ s₀ (trailer_at D (other_area area))) ⊎ (Counts (s (trailer_at D (other_area area))) → ⊥) → Finds D s area n t
    still_old o = finds_same s s₀ area n t (record { inside = inside_same; other = o; marked = λ i _ _. data_same i }) old

    now_new : s (trailer_at D (other_area area)) ≡ held (trailer_note D ((n + 1) % 3)) (trailer_data (other_area area) D) → Finds D s (other_area area) ((n + 1) % 3) u
    now_new e =
        new_checkpoint s area (other_area area) n u (other_other area) few
        (subst (λ z. Numbered D area z n) (sym (at s s₀ area inside_same (entry_pages D) (trailer_at D area) (omega arith) refl)) old.1.active.own) e
        (entered_whole s (other_area area) u long ok (λ j l. settled_there (entry_page_at (other_area area) j) _ (λ z. omega arith) (entries j l)))
        (λ i l. settled_there (log_page_at D (other_area area) i) blank (λ z. omega arith) (log i (omega arith) l))
        (backed_settled m u s (λ i x _ z. settled_there (data_page_at i) x (λ y. omega (arith, trailer_below (other_area area))) z) backed)

    trailer_ways : Finds D s area n t ⊎ Finds D s (other_area area) ((n + 1) % 3) u
    trailer_ways = go (page_ways m (trailer_at D (other_area area)) (trailer_note D ((n + 1) % 3)) (trailer_data (other_area area) D) was s w)
      where
        go : (s (trailer_at D (other_area area)) ≡ blank)
            ⊎ ((s (trailer_at D (other_area area)) ≡ held (trailer_note D ((n + 1) % 3)) (trailer_data (other_area area) D)) ⊎ (s (trailer_at D (other_area area)) ≡ torn))
            → Finds D s area n t ⊎ Finds D s (other_area area) ((n + 1) % 3) u
        go (inl e) = inl (still_old (inr (λ c. subst Counts e c)))
        go (inr (inl e)) = inr (now_new e)
        go (inr (inr e)) = inl (still_old (inr (λ c. subst Counts e c)))

  other_trailer : (m m' : Pages) (area : Area) (n : ℕ) (t u : Table) (r : Result (Unit {0}) Fault)
      → Holds D m area n t → n < 3 → length u ≡ D → ProperTable u → SettledEntries D m (other_area area) u → BlankFrom D m (other_area area) 0 → SettledBacked D m u
      → Programs m (trailer_at D (other_area area)) (trailer_note D ((n + 1) % 3)) (trailer_data (other_area area) D) r m'
      → HoldsEither D m' area n t (other_area area) ((n + 1) % 3) u
  other_trailer m m' area n t u r h few long ok entries log backed call s l =
      ⊎_elim (λ same. inl (h s same))
      (λ x. trailer_ways m area n t u h few long ok entries log backed
      (program_blank m (trailer_at D (other_area area)) (length (trailer_data (other_area area) D)) x.0) s x.1)
      (wanted_cases _ m _ s (chip_cuts.at_program m m' (trailer_at D (other_area area)) (trailer_note D ((n + 1) % 3)) (trailer_data (other_area area) D) r s call l))

  -- Around the program of the next log page.
  module _ (m : Pages) (area : Area) (n : ℕ) (t u : Table) (j : ℕ) (records : List Record) (h : Holds D m area n t) (few : j < log_pages D) (free : BlankFrom D m area j)
      (ok : ProperLog records) (makes : replayed (Some t) records ≡ Some u) (backed : SettledBacked D m u)
      (was : m.cell (log_page_at D area j) ≡ settled blank) (s : ℕ → State)
      (w : Leaves Tears (programmed m (log_page_at D area j) (log_note records) (log_data records)) s) where
    abbrev p : ℕ
    p = log_page_at D area j

    abbrev l₀ : ℕ → State
    l₀ = before m p (log_note records) (log_data records) was s w

    away : (q : ℕ) → (q ≡ log_page_at D area j → ⊥) → s q ≡ l₀ q
    away = before_elsewhere m p (log_note records) (log_data records) was s w

    settled_away : (q : ℕ) (x : State) → (q ≡ log_page_at D area j → ⊥) → m.cell q ≡ settled x → s q ≡ x
    settled_away = others_settled m p (log_note records) (log_data records) was s w

    was_old : Finds D l₀ area n t
    was_old = h l₀ (before_leaves m p (log_note records) (log_data records) was s w)

    log_was_blank : (i : ℕ) → j ≤ i → i < log_pages D → l₀ (log_page_at D area i) ≡ blank
    log_was_blank i a b =
        settled_way m.cell l₀ (log_page_at D area i) blank (before_leaves m p (log_note records) (log_data records) was s w) (free i a b)

    log_blank_after : (i : ℕ) → suc j ≤ i → i < log_pages D → s (log_page_at D area i) ≡ blank
    log_blank_after i a b = settled_away (log_page_at D area i) blank (λ e. omega arith) (free i (omega arith) b)

    -- the log up to page j, as it stood
    upto : Logged D s area j was_old.1.base t was_old.0
    upto =
        logged_same s l₀ area j (λ i l. away (log_page_at D area i) (λ e. omega arith)) was_old.1.base t was_old.0
        (logged_down l₀ area (log_pages D) j (omega arith) log_was_blank was_old.1.base t was_old.0 was_old.1.log)

    -- what recovery finds once page j turns the table into v
    with_page : (v : Table) → LogStep (s (log_page_at D area j)) j t was_old.0 v (suc j) → Backed s v D → Finds D s area n v
    with_page v step held_up = (
      suc j,
      record {
        active = active_away;
        base = was_old.1.base;
        entries = entries_away;
        log = logged_up s area (log_pages D) (suc j) (omega arith) log_blank_after was_old.1.base v (suc j) (t, was_old.0, upto, step);
        backed = held_up;
      },
    )
      where
        own_away : s (trailer_at D area) ≡ l₀ (trailer_at D area)
        own_away = away (trailer_at D area) (λ e. omega arith)

        other_away : s (trailer_at D (other_area area)) ≡ l₀ (trailer_at D (other_area area))
        other_away = away (trailer_at D (other_area area)) (λ e. areas_apart area (entry_pages D + 1 + j) (entry_pages D) (omega arith) (omega arith) (omega arith))

        active_away : Active D s area n
        active_away = record {
          own = subst (λ z. Numbered D area z n) (sym own_away) was_old.1.active.own;
          other = subst (λ z. (Counts z → ⊥) ⊎ ((b : ℕ) × Numbered D (other_area area) z b × (n ≡ (b + 1) % 3))) (sym other_away) was_old.1.active.other;
        }

        entries_away : Entered D s area (entry_pages D) was_old.1.base
        entries_away = record {
          long = was_old.1.entries.long;
          pages = λ i l. away (entry_page_at area i) (λ e. omega arith) ∙ was_old.1.entries.pages i l;
          proper = was_old.1.entries.proper;
          distinct = was_old.1.entries.distinct;
        }

    data_away : (i : ℕ) → s (data_page_at i) ≡ l₀ (data_page_at i)
    data_away i = away (data_page_at i) (λ e. omega (arith, first_small area))

    old_backed : Backed s t D
    old_backed i l k = let (bytes, e) = was_old.1.backed i l k in (bytes, data_away i ∙ e)

    unprogrammed : s (log_page_at D area j) ≡ blank → Finds D s area n t
    unprogrammed e =
        finds_same s l₀ area n t
        (record { inside = λ k _. everywhere (first_page area + k); other = inl (everywhere (trailer_at D (other_area area))); marked = λ i _ _. data_away i }) was_old
      where
        everywhere : (q : ℕ) → s q ≡ l₀ q
        everywhere q = ⊎_elim
            (λ (z : q ≡ log_page_at D area j). rw z (e ∙ sym (before_here m p (log_note records) (log_data records) was s w)))
            (λ (ne : q ≡ log_page_at D area j → ⊥). away q ne)
            (cases_eq q (log_page_at D area j))

    log_new : s (log_page_at D area j) ≡ held (log_note records) (log_data records) → Finds D s area n u
    log_new e =
        with_page u (subst (λ z. LogStep z j t was_old.0 u (suc j)) (sym e) (records, ok, refl, refl, makes, refl))
        (backed_settled m u s (λ i x _ z. settled_away (data_page_at i) x (λ y. omega (arith, first_small area)) z) backed)

    log_ways : Finds D s area n t ⊎ Finds D s area n u
    log_ways = go (page_ways m p (log_note records) (log_data records) was s w)
      where
        go : (s (log_page_at D area j) ≡ blank) ⊎ ((s (log_page_at D area j) ≡ held (log_note records) (log_data records)) ⊎ (s (log_page_at D area j) ≡ torn))
            → Finds D s area n t ⊎ Finds D s area n u
        go (inl e) = inl (unprogrammed e)
        go (inr (inl e)) = inr (log_new e)
        go (inr (inr e)) = inl (with_page t (subst (λ z. LogStep z j t was_old.0 t (suc j)) (sym e) (refl, refl)) old_backed)

  next_log : (m m' : Pages) (area : Area) (n : ℕ) (t u : Table) (j : ℕ) (records : List Record) (r : Result (Unit {0}) Fault)
      → Holds D m area n t → j < log_pages D → BlankFrom D m area j → ProperLog records → replayed (Some t) records ≡ Some u → SettledBacked D m u
      → Programs m (log_page_at D area j) (log_note records) (log_data records) r m' → HoldsEither D m' area n t area n u
  next_log m m' area n t u j records r h few free ok makes backed call s l =
      ⊎_elim (λ same. inl (h s same))
      (λ x. log_ways m area n t u j records h few free ok makes backed (free j (omega arith) few) s x.1)
      (wanted_cases _ m _ s (chip_cuts.at_program m m' (log_page_at D area j) (log_note records) (log_data records) r s call l))

  -- A page that was programmed, and settled by a sync behind it, reads so whichever way a cut goes.
  module _ (m m₁ m₂ : Pages) (p : ℕ) (note : Note) (bytes : List ℕ) (call : Programs m p note bytes (Ok tt) m₁) (sync : Syncs m₁ (Ok tt) m₂) (s : ℕ → State) (l : Leaves Tears m₂.cell s) where
    still_wanted : Leaves Tears (programmed m p note bytes) s
    still_wanted =
        subst (λ o. Leaves Tears (wanted o m (programmed m p note bytes)) s) call.0
        (chip_cuts.at_program m m₁ p note bytes (Ok tt) s call (chip_cuts.at_sync m₁ m₂ (Ok tt) s sync l))

    was_blank : m.cell p ≡ settled blank
    was_blank = program_blank m p (length bytes) call.0

    now_held : s p ≡ held note bytes
    now_held =
        settled_way m₂.cell s p (reads (m₁.cell p)) l (early_settled (reads (m₁.cell p)) (m₂.cell p) (sync.2.cells p))
        ∙ (chip_reads.after_program m m₁ p note bytes call).0

  log_committed : (m m₁ m₂ : Pages) (area : Area) (n : ℕ) (t u : Table) (j : ℕ) (records : List Record) → Holds D m area n t → j < log_pages D → BlankFrom D m area j
      → ProperLog records → replayed (Some t) records ≡ Some u → SettledBacked D m u → Programs m (log_page_at D area j) (log_note records) (log_data records) (Ok tt) m₁
      → Syncs m₁ (Ok tt) m₂ → Holds D m₂ area n u
  log_committed m m₁ m₂ area n t u j records h few free ok makes backed call sync s l =
      log_new m area n t u j records h few free ok makes backed (was_blank m m₁ m₂ _ _ _ call sync s l) s (still_wanted m m₁ m₂ _ _ _ call sync s l)
      (now_held m m₁ m₂ _ _ _ call sync s l)

  trailer_committed : (m m₁ m₂ : Pages) (area : Area) (n : ℕ) (t u : Table) → Holds D m area n t → n < 3 → length u ≡ D → ProperTable u
      → SettledEntries D m (other_area area) u → BlankFrom D m (other_area area) 0 → SettledBacked D m u
      → Programs m (trailer_at D (other_area area)) (trailer_note D ((n + 1) % 3)) (trailer_data (other_area area) D) (Ok tt) m₁ → Syncs m₁ (Ok tt) m₂
      → Holds D m₂ (other_area area) ((n + 1) % 3) u
  trailer_committed m m₁ m₂ area n t u h few long ok entries log backed call sync s l =
      now_new m area n t u h few long ok entries log backed (was_blank m m₁ m₂ _ _ _ call sync s l) s (still_wanted m m₁ m₂ _ _ _ call sync s l)
      (now_held m m₁ m₂ _ _ _ call sync s l)

  -- a settled checkpoint with a blank log, and no trailer in the other area
  pub settled_holds : (m : Pages) (area : Area) (n : ℕ) (t : Table) → n < 3 → length t ≡ D → ProperTable t → SettledEntries D m area t
      → m.cell (trailer_at D area) ≡ settled (held (trailer_note D n) (trailer_data area D)) → m.cell (trailer_at D (other_area area)) ≡ settled blank
      → BlankFrom D m area 0 → SettledBacked D m t → Holds D m area n t
  settled_holds m area n t few long ok entries own other log backed s l = (
    0,
    record {
      active = record { own = record { small = few; is = way (trailer_at D area) _ own }; other = inl (λ c. subst Counts (way (trailer_at D (other_area area)) blank other) c) };
      base = t;
      entries = entered_whole s area t long ok (λ j k. way (entry_page_at area j) _ (entries j k));
      log = log_blank s area t (λ i k. way (log_page_at D area i) blank (log i (omega arith) k));
      backed = backed_settled m t s (λ i x _ e. way (data_page_at i) x e) backed;
    },
  )
    where
      way : (q : ℕ) (x : State) → m.cell q ≡ settled x → s q ≡ x
      way q x e = settled_way m.cell s q x l e

  pub safe_steps : SafeSteps D
  safe_steps = record {
    data_page = data_page;
    data_block = data_block;
    other_block = other_block;
    other_entry = other_entry;
    other_trailer = other_trailer;
    next_log = next_log;
    log_committed = log_committed;
    trailer_committed = trailer_committed;
    formed = settled_holds;
    either_syncing = λ m m' area n t area' n' t' r h call s l. h s (chip_cuts.at_sync m m' r s call l);
    either_powering = λ m m' area n t area' n' t' r h call s l. h s (chip_cuts.at_power_on m m' r s call l);
    reading = λ m m' area n t p buf after r h call s l. h s (chip_cuts.at_read m m' p buf after r s call l);
    syncing = λ m m' area n t r h call s l. h s (chip_cuts.at_sync m m' r s call l);
    powering = λ m m' area n t r h call s l. h s (chip_cuts.at_power_on m m' r s call l);
  }
