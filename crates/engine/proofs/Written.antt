-- Writing a block: what there is room in, the page placed, the room for its record, and the entry, put together; and where a power cut can come out.
use Rattle.std.proofs.Common.{◌≡◌, ℕ, zero, suc, ◌+◌, ◌<◌, Bool, true, false, cond, eqb, ◌⊎◌, List, [], ◌∷◌, length, Some, Ok, Err, Result, sym, refl, ap, ◌∙◌, subst, inl, inr, ⊎_elim, add-zero, zero-add, arith}
use Rattle.std.proofs.lemmas.Bool.{eq-eqb, ne_eqb, both_ways, cases_Bool, cond-true, cond-false}
use Rattle.device.specs.declared.faults.Fault.{Fault}
use Rattle.device.specs.declared.places.DataPage.{DataPage}
use Rattle.device.specs.Chips.{State, Pages, Tears, block_of, data_page_at}
use Rattle.device.specs.Chips.State.{blank, held}
use Rattle.device.proofs.Settling.{ends_reads}
use Rattle.layout.specs.Pages.{data_note}
use Rattle.recovery.specs.Looking.{shown}
use Rattle.recovery.specs.Recovering.{IsData, Backed}
use Rattle.table.specs.Tables.{Table, empty, entry_at, has_mark, marked_at, entered, replayed}
use Rattle.table.specs.Tables as tables
use Rattle.space.specs.declared.blanks.Space.{Space}
use Rattle.journal.specs.Drops.{in_block, spared_from, spared, dropping}
use Rattle.engine.specs.Moves.{roomy, mark_for, putting, must_commit, committing_if}
use Rattle.journal.specs.Notes.{Noted, committed_pages, committed}
use Rattle.journal.specs.Points.{Point, point, Either}
use Rattle.journal.specs.Ready.{Ready}
use Rattle.space.specs.Rooms.{MakesRoom, RoomPoints, FindsRoom, Placed, Places}
use Rattle.engine.specs.Works.{Onward, Holding, MakesRoomy, Enters, WritePoints, WriteCommits, Writes}
use Rattle.space.specs.Worlds.{World, world, is_blank, blank_page, reclaimed, placed, placed_pages}
use Rattle.journal.proofs.Leaving.{left_more}
use Rattle.engine.proofs.Roomily.{committed_table, committed_staged, committed_away, roomy_table, roomy_away, roomy_room}
use Rattle.journal.proofs.Turning.{SamePoint, left_turn}

-- Points that are the same.

pub same_here : (D : ℕ) (t : Table) (p q : ℕ → State) → ((i : ℕ) → i < D → marked_at t i ≡ true → p (data_page_at i) ≡ q (data_page_at i))
    → SamePoint D (point t p) (point t q)
same_here D t p q h = record { table = refl; pages = h }

same_then : (D : ℕ) (x y z : Point) → SamePoint D x y → SamePoint D y z → SamePoint D x z
same_then D x y z h k = record {
  table = k.table ∙ h.table;
  pages = λ i l e. h.pages i l e ∙ k.pages i l (ap (λ t. marked_at t i) h.table ∙ e);
}

-- What a reclaim makes of the table and of the data pages outside the block.

spared_outside : (t : Table) (k b j : ℕ) → marked_at (spared_from t k b) j ≡ true → in_block b (k + j) ≡ false
spared_outside [] k b j h = absurd (both_ways true (sym h) refl)
spared_outside (e ∷ es) k b zero h = ⊎_elim
    (λ (y : in_block b k ≡ true). absurd (both_ways true (sym (ap (λ x. has_mark x.mark) (sym (cond-true (in_block b k) empty e y)) ∙ h)) refl))
    (λ (n : in_block b k ≡ false). ap (in_block b) (add-zero k) ∙ n)
    (cases_Bool (in_block b k))
spared_outside (e ∷ es) k b (suc j) h = let same : k + suc j ≡ suc k + j = omega arith in ap (in_block b) same ∙ spared_outside es (suc k) b j h

module _ (D b : ℕ) (w : World) where
  reclaimed_table : (reclaimed D b w).noted.table ≡ spared w.noted.table b
  reclaimed_table = committed_table D (dropping b (committed D w.noted)) ∙ ap (λ t. spared t b) (committed_table D w.noted)

  reclaimed_staged : (reclaimed D b w).noted.staged ≡ []
  reclaimed_staged = committed_staged D (dropping b (committed D w.noted))

  reclaimed_away : (j : ℕ) → in_block b j ≡ false → (reclaimed D b w).pages (data_page_at j) ≡ w.pages (data_page_at j)
  reclaimed_away j out =
      let v = dropping b (committed D w.noted) in
      let once = committed_pages D w.noted w.pages in
      cond-false (eqb (block_of (data_page_at j)) b) blank (committed_pages D v once (data_page_at j)) out
      ∙ committed_away D v once j
      ∙ committed_away D w.noted w.pages j

  reclaimed_point : SamePoint D (point (reclaimed D b w).noted.table (reclaimed D b w).pages) (point (spared w.noted.table b) w.pages)
  reclaimed_point = record {
    table = sym reclaimed_table;
    pages = λ j l e.
        reclaimed_away j (ap (in_block b) (sym (zero-add j)) ∙ spared_outside w.noted.table 0 b j (ap (λ t. marked_at t j) (sym reclaimed_table) ∙ e));
  }

-- A blank page has no mark in a table that is backed.

not_data : (s : State) (a : ℕ) → is_blank s ≡ true → IsData s a → ⊥
not_data s a h (bytes, e) = both_ways true (sym (ap is_blank (sym e) ∙ h)) refl

blank_unmarked : (D : ℕ) (pages : ℕ → State) (t : Table) (i : ℕ) → i < D → blank_page pages i ≡ true → Backed pages t D → marked_at t i ≡ false
blank_unmarked D pages t i l h backed =
    ⊎_elim (λ y. absurd (not_data (pages (data_page_at i)) (entry_at t i).address.0 h (backed i l y))) (λ n. n) (cases_Bool (marked_at t i))

-- the committed table is backed too
committed_backed : (D : ℕ) (m : Pages) (v : Noted) (t : Table) → Ready D m v t → Backed (shown m) t D
committed_backed D m v t h = let (next, found) = h.holds (shown m) (λ p. ends_reads Tears (m.cell p) (shown m p) refl) in found.backed

placed_here : (i a : ℕ) (bytes : List ℕ) (pages : ℕ → State) → placed_pages i a bytes pages (data_page_at i) ≡ held (data_note a) bytes
placed_here i a bytes pages = cond-true (eqb (data_page_at i) (data_page_at i)) (held (data_note a) bytes) (pages (data_page_at i)) (eq-eqb (data_page_at i) (data_page_at i) refl)

placed_point : (D i a : ℕ) (bytes : List ℕ) (pages : ℕ → State) (t : Table) → marked_at t i ≡ false → SamePoint D (point t (placed_pages i a bytes pages)) (point t pages)
placed_point D i a bytes pages t un = same_here D t (placed_pages i a bytes pages) pages (λ j l e.
    let ne : j ≡ i → ⊥ = λ same. both_ways (marked_at t i) un (subst (λ k. marked_at t k ≡ true) same e) in
    cond-false (eqb (data_page_at j) (data_page_at i)) (held (data_note a) bytes) (pages (data_page_at j)) (ne_eqb (data_page_at j) (data_page_at i) (λ z. ne (omega arith))))

-- Once there is room.

module _ (D blocks : ℕ) (m : Pages) (v : Noted) (sp : Space) (i : DataPage) (m₁ : Pages) (v₁ : Noted) (sp₁ : Space)
    (found : FindsRoom D blocks m v sp (Ok (Some i)) m₁ v₁ sp₁) where
  abbrev pub W : World
  W = world m v sp

  abbrev pub U : World
  U = world m₁ v₁ sp₁

  -- the committed table is the one from before, in the world from before, or that in memory
  abbrev pub From : Table → Table → Type 0
  From t u = ((U ≡ W) × (u ≡ t)) ⊎ (u ≡ v₁.table)

  nothing_staged : (u : Table) → v₁.staged ≡ [] → replayed (Some u) v₁.staged ≡ Some v₁.table → u ≡ v₁.table
  nothing_staged u none h = let e : Some u ≡ Some v₁.table = ap (replayed (Some u)) (sym none) ∙ h in cc

  room_from : (t u : Table) → MakesRoom D blocks W U → Ready D m₁ v₁ u → (u ≡ t) ⊎ (u ≡ v₁.table) → From t u
  room_from t u (inl (same, _)) h (inl e) = inl (same, e)
  room_from t u (inr (_, (b, _, same))) h (inl e) = inr (nothing_staged u (ap (λ w. w.noted.staged) same ∙ reclaimed_staged D b W) h.makes)
  room_from t u room h (inr e) = inr e

  from_onward : (t u : Table) → Onward t v.table → From t u → Onward u v₁.table
  from_onward t u h (inl (same, e)) = subst (λ x. Onward x v₁.table) (sym e) (subst (Onward t) (sym (ap (λ w. w.noted.table) same)) h)
  from_onward t u h (inr e) = subst (λ x. Onward x v₁.table) (sym e) (λ b k. k)

  pub room_holding : (t : Table) → Holding D m v sp t → (u : Table) × Holding D m₁ v₁ sp₁ u × From t u
  room_holding t h =
      let (u, k, way) = found.3 t h.keeps in
      let from = room_from t u found.1 k.ready way in
      (u, record { keeps = k; onward = from_onward t u h.onward from }, from)

  unmarked_memory : (u : Table) → Ready D m₁ v₁ u → marked_at v₁.table i.0 ≡ false
  unmarked_memory u h = blank_unmarked D (shown m₁) v₁.table i.0 found.2.inside found.2.found h.backed

  unmarked_committed : (u : Table) → Ready D m₁ v₁ u → marked_at u i.0 ≡ false
  unmarked_committed u h = blank_unmarked D (shown m₁) u i.0 found.2.inside found.2.found (committed_backed D m₁ v₁ u h)

  -- Points of the world once there is room, as points of the world in which the call began.
  module _ (dirty : Bool) (a : ℕ) (bytes : List ℕ) (t : Table) where
    abbrev Home : Point → Type 0
    Home x = (y : Point) × WritePoints D blocks dirty a bytes W t y × SamePoint D x y

    home_then : (x y : Point) → SamePoint D x y → Home y → Home x
    home_then x y h (z, among, k) = (z, among, same_then D x y z h k)

    home_memory : MakesRoom D blocks W U → Home (point v₁.table (shown m₁))
    home_memory (inl (same, _)) = (
      point v.table (shown m),
      inr (inl refl),
      record { table = sym (ap (λ w. w.noted.table) same); pages = λ j l e. ap (λ w. w.pages (data_page_at j)) same },
    )
    home_memory (inr (none, (b, victim, same))) =
        let y = point (spared v.table b) (shown m) in
        (y, inr (inr (inl (none, (b, victim, inr (inr refl))))), subst (λ w. SamePoint D (point w.noted.table w.pages) y) (sym same) (reclaimed_point D b W))

    home_committed : (u : Table) → From t u → Home (point u (shown m₁))
    home_committed u (inl (same, e)) = (point t (shown m), inl refl, record { table = sym e; pages = λ j l _. ap (λ w. w.pages (data_page_at j)) same })
    home_committed u (inr e) = subst (λ x. Home (point x (shown m₁))) (sym e) (home_memory found.1)

    home_new : Home (point (entered v₁.table i.0 (mark_for dirty) a) (placed_pages i.0 a bytes (shown m₁)))
    home_new =
        let x = point (entered v₁.table i.0 (mark_for dirty) a) (placed_pages i.0 a bytes (shown m₁)) in
        (x, inr (inr (inr (U, i.0, found.1, found.2, refl))), record { table = refl; pages = λ j l e. refl })

  pub write_unplaced : (dirty : Bool) (a : ℕ) (bytes : List ℕ) (f : Fault) (m₂ : Pages) (sp₂ : Space) → Places D i.0 a bytes m₁ v₁ sp₁ (Err f) m₂ sp₂
      → Writes D blocks dirty a bytes m v sp (Err f) m₂ v₁ sp₂
  write_unplaced dirty a bytes f m₂ sp₂ (fails, left) = inr (
    record { lost = fails.lost; size = fails.size ∙ found.0 },
    λ t h.
        let (u, k, from) = room_holding t h in
        left_turn D m₂ (λ x. x ≡ point u (shown m₁)) (WritePoints D blocks dirty a bytes W t)
        (λ x e. subst (Home dirty a bytes t) (sym e) (home_committed dirty a bytes t u from)) (left u k.keeps),
  )

  -- Once the page is placed.
  module _ (dirty : Bool) (a : ℕ) (bytes : List ℕ) (m₂ : Pages) (sp₂ : Space) (done : Placed D i.0 a bytes m₁ v₁ sp₁ m₂ sp₂) where
    pub placed_holding : (u : Table) → Holding D m₁ v₁ sp₁ u → Holding D m₂ v₁ sp₂ u
    placed_holding u h = record { keeps = done.keeps u h.keeps; onward = h.onward }

    -- a table that does not mark the new page
    home_placed : (t u : Table) → marked_at u i.0 ≡ false → Home dirty a bytes t (point u (shown m₁)) → Home dirty a bytes t (point u (shown m₂))
    home_placed t u un h =
        home_then dirty a bytes t (point u (shown m₂)) (point u (shown m₁))
        (subst (λ s. SamePoint D (point u s) (point u (shown m₁))) (sym (ap (λ w. w.pages) done.after)) (placed_point D i.0 a bytes (shown m₁) u un)) h

    home_before : (t u : Table) → Ready D m₁ v₁ u → From t u → Home dirty a bytes t (point u (shown m₂))
    home_before t u h from = home_placed t u (unmarked_committed u h) (home_committed dirty a bytes t u from)

    home_now : (t u : Table) → Ready D m₁ v₁ u → Home dirty a bytes t (point v₁.table (shown m₂))
    home_now t u h = home_placed t v₁.table (unmarked_memory u h) (home_memory dirty a bytes t found.1)

    pub write_crowded : (f : Fault) (m₃ : Pages) (v₃ : Noted) → MakesRoomy D m₂ v₁ sp₂ (Err f) m₃ v₃ → Writes D blocks dirty a bytes m v sp (Err f) m₃ v₃ sp₂
    write_crowded f m₃ v₃ (fails, left) = inr (
      record { lost = fails.lost; size = fails.size ∙ done.size ∙ found.0 },
      λ t h.
          let (u, k, from) = room_holding t h in
          left_turn D m₃ (Either (point u (shown m₂)) (point v₁.table (shown m₂))) (WritePoints D blocks dirty a bytes W t)
          (λ x. ⊎_elim
          (λ e. subst (Home dirty a bytes t) (sym e) (home_before t u k.keeps.ready from))
          (λ e. subst (Home dirty a bytes t) (sym e) (home_now t u k.keeps.ready)))
          (left u (placed_holding u k)),
    )

    -- Once there is room for its record.
    module _ (m₃ : Pages) (v₃ : Noted) (roomier : MakesRoomy D m₂ v₁ sp₂ (Ok tt) m₃ v₃) where
      table_kept : v₃.table ≡ v₁.table
      table_kept = ap (λ w. w.noted.table) roomier.1 ∙ roomy_table D (world m₂ v₁ sp₂)

      page_kept : (j : ℕ) → shown m₃ (data_page_at j) ≡ shown m₂ (data_page_at j)
      page_kept j = ap (λ w. w.pages (data_page_at j)) roomier.1 ∙ roomy_away D (world m₂ v₁ sp₂) j

      -- what entering the page asks
      pub write_room : (u : Table) → Ready D m₁ v₁ u → length v₃.staged < 64
      write_room u h = subst (λ n. n < 64) (sym (ap (λ w. length w.noted.staged) roomier.1)) (roomy_room D (world m₂ v₁ sp₂) h.room)

      pub write_unmarked : (u : Table) → Ready D m₁ v₁ u → marked_at v₃.table i.0 ≡ false
      write_unmarked u h = ap (λ t. marked_at t i.0) table_kept ∙ unmarked_memory u h

      pub write_data : IsData (shown m₃ (data_page_at i.0)) a
      write_data = (bytes, page_kept i.0 ∙ ap (λ w. w.pages (data_page_at i.0)) done.after ∙ placed_here i.0 a bytes (shown m₁))

      home_kept : (t u : Table) → Home dirty a bytes t (point u (shown m₂)) → Home dirty a bytes t (point u (shown m₃))
      home_kept t u h = home_then dirty a bytes t (point u (shown m₃)) (point u (shown m₂)) (same_here D u (shown m₃) (shown m₂) (λ j l e. page_kept j)) h

      home_entered : (t : Table) → Home dirty a bytes t (point (entered v₃.table i.0 (mark_for dirty) a) (shown m₃))
      home_entered t =
          subst (λ x. Home dirty a bytes t (point (entered x i.0 (mark_for dirty) a) (shown m₃))) (sym table_kept)
          (home_kept t (entered v₁.table i.0 (mark_for dirty) a)
          (subst (λ s. Home dirty a bytes t (point (entered v₁.table i.0 (mark_for dirty) a) s)) (sym (ap (λ w. w.pages) done.after)) (home_new dirty a bytes t)))

      home_either : (t u u₂ : Table) → Ready D m₁ v₁ u → From t u → (u₂ ≡ u) ⊎ (u₂ ≡ v₁.table) → Home dirty a bytes t (point u₂ (shown m₃))
      home_either t u u₂ h from (inl e) = subst (λ x. Home dirty a bytes t (point x (shown m₃))) (sym e) (home_kept t u (home_before t u h from))
      home_either t u u₂ h from (inr e) = subst (λ x. Home dirty a bytes t (point x (shown m₃))) (sym e) (home_kept t v₁.table (home_now t u h))

      pub write_unentered : (f : Fault) (m₄ : Pages) (v₄ : Noted) → Enters D dirty i.0 a m₃ v₃ sp₂ (Err f) m₄ v₄ → Writes D blocks dirty a bytes m v sp (Err f) m₄ v₄ sp₂
      write_unentered f m₄ v₄ (fails, left) = inr (
        record { lost = fails.lost; size = fails.size ∙ roomier.0 ∙ done.size ∙ found.0 },
        λ t h.
            let (u, k, from) = room_holding t h in
            let (u₂, k₂, way) = roomier.2 u (placed_holding u k) in
            left_turn D m₄ (Either (point u₂ (shown m₃)) (point (entered v₃.table i.0 (mark_for dirty) a) (shown m₃))) (WritePoints D blocks dirty a bytes W t)
            (λ x. ⊎_elim
            (λ e. subst (Home dirty a bytes t) (sym e) (home_either t u u₂ k.keeps.ready from way))
            (λ e. subst (Home dirty a bytes t) (sym e) (home_entered t)))
            (left u₂ k₂),
      )

      -- the world that is left
      before : world m₃ v₃ sp₂ ≡ roomy D (placed D i.0 a bytes U)
      before = roomier.1 ∙ ap (roomy D) done.after

      must_same : must_commit dirty a (world m₃ v₃ sp₂) ≡ must_commit dirty a U
      must_same = ap (λ t. cond dirty true (tables.held t a)) table_kept

      commits_as : (t u u₂ u₃ after : Table) → From t u → (u₂ ≡ u) ⊎ (u₂ ≡ v₁.table) → (u₃ ≡ after) ⊎ ((tables.held u₂ a ≡ false) × (u₃ ≡ u₂)) → WriteCommits a W U after t u₃
      commits_as t u u₂ u₃ after from way (inl e) = inl e
      commits_as t u u₂ u₃ after from (inr f) (inr (free, e)) = inr (ap (λ x. tables.held x a) e ∙ free, inr (e ∙ f))
      commits_as t u u₂ u₃ after (inl (same, g)) (inl f) (inr (free, e)) = inr (ap (λ x. tables.held x a) e ∙ free, inl (same, e ∙ f ∙ g))
      commits_as t u u₂ u₃ after (inr g) (inl f) (inr (free, e)) = inr (ap (λ x. tables.held x a) e ∙ free, inr (e ∙ f ∙ g))

      pub write_entered : (m₄ : Pages) (v₄ : Noted) → Enters D dirty i.0 a m₃ v₃ sp₂ (Ok tt) m₄ v₄ → Writes D blocks dirty a bytes m v sp (Ok tt) m₄ v₄ sp₂
      write_entered m₄ v₄ (size, (became, settles), keeps) = (
        U,
        i.0,
        found.1,
        found.2,
        (
          size ∙ roomier.0 ∙ done.size ∙ found.0,
          became
              ∙ ap (λ b. committing_if b D (putting dirty i.0 a (world m₃ v₃ sp₂))) must_same
              ∙ ap (λ w. committing_if (must_commit dirty a U) D (putting dirty i.0 a w)) before,
          λ t h.
              let (u, k, from) = room_holding t h in
              let (u₂, k₂, way) = roomier.2 u (placed_holding u k) in
              let (u₃, k₃, end) = keeps u₂ k₂ in
              (u₃, k₃, commits_as t u u₂ u₃ v₄.table from way end),
        ),
        λ must. settles (must_same ∙ must),
      )

      pub write_ends : (r : Result (Unit {0}) Fault) (m₄ : Pages) (v₄ : Noted) → Enters D dirty i.0 a m₃ v₃ sp₂ r m₄ v₄ → Writes D blocks dirty a bytes m v sp r m₄ v₄ sp₂
      write_ends (Ok tt) m₄ v₄ h = write_entered m₄ v₄ h
      write_ends (Err f) m₄ v₄ h = write_unentered f m₄ v₄ h

pub write_unfound : (D blocks : ℕ) (dirty : Bool) (a : ℕ) (bytes : List ℕ) (m : Pages) (v : Noted) (sp : Space) (f : Fault) (m₁ : Pages) (v₁ : Noted) (sp₁ : Space)
    → FindsRoom D blocks m v sp (Err f) m₁ v₁ sp₁ → Writes D blocks dirty a bytes m v sp (Err f) m₁ v₁ sp₁
write_unfound D blocks dirty a bytes m v sp f m₁ v₁ sp₁ (fails, left) = inr (
  fails,
  λ t h.
      left_more D m₁ (RoomPoints D blocks t (world m v sp)) (WritePoints D blocks dirty a bytes (world m v sp) t) (λ x k. inr (inr (inl k))) (left t h.keeps),
)
