-- Evicting and cleaning: the record is staged once there is room for it, and the marked pages stay held.
use Rattle.std.proofs.Common.{◌≡◌, ℕ, ◌<◌, ◌≤◌, true, eqb, ◌⊎◌, [], ◌∷◌, length, Some, None, Ok, Err, Result, sym, refl, ap, ◌∙◌, subst, subst₂, inl, inr, ⊎_elim, arith}
use Rattle.std.proofs.ByRecursion.{All-push}
use Rattle.std.proofs.lemmas.List.{length-append}
use Rattle.std.proofs.lemmas.Bool.{eqb-true, eqb-false, cases_Bool, cond-true, cond_both}
use Rattle.device.specs.declared.faults.Fault.{Fault}
use Rattle.device.specs.declared.places.DiskAddress.{DiskAddress}
use Rattle.device.specs.Chips.{State, Pages, data_page_at}
use Rattle.layout.specs.declared.entries.Mark.{Mark}
use Rattle.layout.specs.declared.entries.Mark.TheVariants.{Empty, Clean, Dirty}
use Rattle.layout.specs.declared.records.Record.{Record}
use Rattle.layout.specs.declared.records.Record.TheVariants.{Drop, MarkClean}
use Rattle.layout.specs.Records.{ProperRecord}
use Rattle.recovery.specs.Looking.{shown}
use Rattle.recovery.specs.Recovering.{IsData, Backed}
use Rattle.table.specs.Tables.{Table, entry_at, held, holds, mark_of, without, cleaned, apply, replayed, ProperTable}
use Rattle.table.specs.Views.{remarked}
use Rattle.table.proofs.Changing.{remarked_at, remarked_holds, apply_keeps, replayed_append}
use Rattle.table.proofs.Elsewhere.{held_cleaned}
use Rattle.table.proofs.Tablewise.{holds_parts, holds_from, held_page, mark_unheld, entry_proper, held_fits}
use Rattle.space.specs.declared.blanks.Space.{Space}
use Rattle.engine.specs.Moves.{roomy, evicting, cleaning}
use Rattle.journal.specs.Notes.{Noted, staging}
use Rattle.journal.specs.Points.{Point, point, Either}
use Rattle.journal.specs.Ready.{Ready}
use Rattle.journal.specs.Steps.{Commits}
use Rattle.engine.specs.Works.{Holding, MakesRoomy, Evicts, Cleans}
use Rattle.space.specs.Worlds.{World, world, committing}
use Rattle.engine.proofs.Flushing.{commit_apart, commit_table, commit_empties, commit_world, commit_fits}
use Rattle.journal.proofs.Leaving.{left_more}
use Rattle.journal.proofs.Settledness.{lands_settled}
use Rattle.journal.proofs.Turning.{SamePoint, left_turn}

-- A record is staged.

pub record_ready : (D : ℕ) (m : Pages) (v : Noted) (t u : Table) (r : Record) → length v.staged < 64 → apply v.table r ≡ Some u → ProperRecord r → Backed (shown m) u D
    → Ready D m v t → Ready D m (staging v u r) t
record_ready D m v t u r room made proper backed h =
    let kept = apply_keeps v.table r u h.proper proper made in
    record {
      power = h.power;
      enough = h.enough;
      few = h.few;
      large = h.large;
      holds = h.holds;
      small = h.small;
      makes = replayed_append (Some t) v.staged (r ∷ []) ∙ ap (λ o. replayed o (r ∷ [])) h.makes ∙ made;
      room = omega (arith, length-append v.staged (r ∷ []));
      records = All-push ProperRecord v.staged r h.records proper;
      long = kept.1 ∙ h.long;
      proper = kept.0;
      ends = h.ends;
      ahead = h.ahead;
      areas = h.areas;
      firm = h.firm;
      backed = backed;
      blanks = h.blanks;
    }

-- with another mark for an address, a page that is still marked has its address as before
pub remarked_backed : (s : ℕ → State) (D : ℕ) (t : Table) (mark : Mark) (a : ℕ) → Backed s t D → Backed s (remarked t mark a) D
remarked_backed s D t mark a h i l marked =
    let b = (entry_at (remarked t mark a) i).address.0 in
    let there : holds b (entry_at (remarked t mark a) i) ≡ true = holds_from b (entry_at (remarked t mark a) i) marked refl in
    let before = holds_parts b (entry_at t i) (remarked_holds mark a b (entry_at t i) (ap (holds b) (sym (remarked_at t mark a i)) ∙ there)) in
    subst (IsData (s (data_page_at i))) before.1 (h i l before.0)

pub held_small : (t : Table) (a : ℕ) → ProperTable t → held t a ≡ true → a < 4294967296
held_small t a proper h =
    let (i, _, there) = held_page t a h in
    let parts = holds_parts a (entry_at t i) there in
    subst (λ n. n < 4294967296) parts.1 (held_fits (entry_at t i).mark (entry_at t i).address.0 parts.0 (entry_proper t i proper))

pub dirty_held : (t : Table) (a : ℕ) → mark_of t a ≡ Dirty → held t a ≡ true
dirty_held t a h = ⊎_elim (λ y. y) (λ n. let e : Empty ≡ Dirty = sym (mark_unheld t a n) ∙ h in grind arith) (cases_Bool (held t a))

pub drop_made : (t : Table) (a : DiskAddress) → held t a.0 ≡ true → apply t (Drop a) ≡ Some (without t a.0)
drop_made t a h = cond-true (held t a.0) (Some (without t a.0)) None h

pub clean_made : (t : Table) (a : DiskAddress) → held t a.0 ≡ true → apply t (MarkClean a) ≡ Some (cleaned t a.0)
clean_made t a h = cond-true (held t a.0) (Some (cleaned t a.0)) None h

-- Once there is room for a record.

roomy_table : (D : ℕ) (w : World) → (roomy D w).noted.table ≡ w.noted.table
roomy_table D w = cond_both (eqb (length w.noted.staged) 64) (committing D w) w (λ u. u.noted.table ≡ w.noted.table) (λ _. commit_table D w.noted) (λ _. refl)

roomy_apart : (D : ℕ) (w : World) (i : ℕ) → (roomy D w).pages (data_page_at i) ≡ w.pages (data_page_at i)
roomy_apart D w i =
    cond_both (eqb (length w.noted.staged) 64) (committing D w) w (λ u. u.pages (data_page_at i) ≡ w.pages (data_page_at i)) (λ _. commit_apart D w.noted w.pages i) (λ _. refl)

roomy_room : (D : ℕ) (w : World) → length w.noted.staged ≤ 64 → length (roomy D w).noted.staged < 64
roomy_room D w few =
    cond_both (eqb (length w.noted.staged) 64) (committing D w) w (λ u. length u.noted.staged < 64)
    (λ e. omega (arith, commit_empties D w.noted (omega (arith, eqb-true (length w.noted.staged) 64 e))))
    (λ e. omega (arith, eqb-false (length w.noted.staged) 64 e))

-- m and v are the chip and the journal at first, m₁ and v₁ where there is room.
module _ (D : ℕ) (m : Pages) (v : Noted) (sp : Space) (m₁ : Pages) (v₁ : Noted) (made : MakesRoomy D m v sp (Ok tt) m₁ v₁) where
  pub same_table : v₁.table ≡ v.table
  same_table = ap (λ w. w.noted.table) made.1 ∙ roomy_table D (world m v sp)

  same_data : (i : ℕ) → shown m₁ (data_page_at i) ≡ shown m (data_page_at i)
  same_data i = ap (λ w. w.pages (data_page_at i)) made.1 ∙ roomy_apart D (world m v sp) i

  pub room_made : (t : Table) → Holding D m v sp t → length v₁.staged < 64
  room_made t h = subst (λ w. length w.noted.staged < 64) (sym made.1) (roomy_room D (world m v sp) h.keeps.ready.room)

  pub still_held : (a : ℕ) → held v.table a ≡ true → held v₁.table a ≡ true
  still_held a h = ap (λ t. held t a) same_table ∙ h

  module _ (a : DiskAddress) (there : held v.table a.0 ≡ true) where
    -- a record that gives the address another mark, or none
    remarked_ready : (mark : Mark) (r : Record) → apply v₁.table r ≡ Some (remarked v₁.table mark a.0) → ((a.0 < 4294967296) → ProperRecord r)
        → (t u : Table) → Holding D m v sp t → Ready D m₁ v₁ u → Ready D m₁ (staging v₁ (remarked v₁.table mark a.0) r) u
    remarked_ready mark r makes proper t u h ready =
        record_ready D m₁ v₁ u (remarked v₁.table mark a.0) r (room_made t h) makes (proper (held_small v₁.table a.0 ready.proper (still_held a.0 there)))
        (remarked_backed (shown m₁) D v₁.table mark a.0 ready.backed) ready

    -- Cleaning.
    pub cleans : (v₂ : Noted) → v₂ ≡ staging v₁ (cleaned v₁.table a.0) (MarkClean a) → Cleans D a.0 m v sp (Ok tt) m₁ v₂
    cleans v₂ e = subst (λ w. Cleans D a.0 m v sp (Ok tt) m₁ w) (sym e) (
      made.0,
      ap (cleaning a.0) made.1,
      λ t h. let (u, k, among) = made.2 t h in (
        u,
        record {
          keeps = record { ready = remarked_ready Clean (MarkClean a) (clean_made v₁.table a (still_held a.0 there)) (λ l. l) t u h k.keeps.ready; fits = k.keeps.fits };
          onward = λ b x. held_cleaned v₁.table a.0 b ∙ k.onward b x;
        },
        among,
      ),
    )

    -- Evicting.
    abbrev pub staged_drop : Noted
    staged_drop = staging v₁ (without v₁.table a.0) (Drop a)

    pub drop_ready : (t u : Table) → Holding D m v sp t → Holding D m₁ v₁ sp u → Ready D m₁ staged_drop u
    drop_ready t u h k = remarked_ready Empty (Drop a) (drop_made v₁.table a (still_held a.0 there)) (λ l. l) t u h k.keeps.ready

    pub drop_owed : (D' : ℕ) (v₂ : Noted) → D' ≡ D → v₂ ≡ staged_drop → (t : Table) → Holding D m v sp t → (u : Table) × Ready D' m₁ v₂ u
    drop_owed D' v₂ large e t h = let (u, k, _) = made.2 t h in (u, subst₂ (λ d w. Ready d m₁ w u) (sym large) (sym e) (drop_ready t u h k))

    -- the points of the commit are points of the eviction
    abbrev EvictPoints : Table → Point → Type 0
    EvictPoints t x = (x ≡ point t (shown m)) ⊎ ((x ≡ point v.table (shown m)) ⊎ (x ≡ point (without v.table a.0) (shown m)))

    point_same : (x : Point) (u t : Table) → x ≡ point u (shown m₁) → u ≡ t → SamePoint D x (point t (shown m))
    point_same x u t e same = record {
      table = sym (ap (λ z. z.table) e ∙ same);
      pages = λ i l marked. ap (λ z. z.pages (data_page_at i)) e ∙ same_data i;
    }

    turned : (t u : Table) → (u ≡ t) ⊎ (u ≡ v.table) → (x : Point) → Either (point u (shown m₁)) (point (without v₁.table a.0) (shown m₁)) x
        → (y : Point) × EvictPoints t y × SamePoint D x y
    turned t u (inl same) x (inl e) = (point t (shown m), inl refl, point_same x u t e same)
    turned t u (inr same) x (inl e) = (point v.table (shown m), inr (inl refl), point_same x u v.table e same)
    turned t u among x (inr e) =
        (point (without v.table a.0) (shown m), inr (inr refl), point_same x (without v₁.table a.0) (without v.table a.0) e (ap (λ z. without z a.0) same_table))

    evicts : (r : Result (Unit {0}) Fault) (m₂ : Pages) (v₃ : Noted) → Commits D m₁ staged_drop r m₂ v₃ → Evicts D a.0 m v sp r m₂ v₃
    evicts (Ok x) m₂ v₃ (lands, e, ready) = (
      lands.size ∙ made.0,
      (commit_world D m₁ staged_drop m₂ v₃ sp lands e ∙ ap (λ w. committing D (evicting a.0 w)) made.1, lands_settled m₁ m₂ _ lands),
      λ t h.
          let (u, k, _) = made.2 t h in
          let same : without v₁.table a.0 ≡ v₃.table = sym (ap (λ w. w.table) e ∙ commit_table D staged_drop) in (
            v₃.table,
            record {
              keeps = record { ready = subst (Ready D m₂ v₃) same (ready u (drop_ready t u h k)); fits = commit_fits D m₁ staged_drop m₂ v₃ sp lands k.keeps.fits };
              onward = λ b y. y;
            },
            refl,
          ),
    )
    evicts (Err f) m₂ v₃ (fails, left) = (
      record { lost = fails.lost; size = fails.size ∙ made.0 },
      λ t h. let (u, k, among) = made.2 t h in left_turn D m₂ _ (EvictPoints t) (turned t u among) (left u (drop_ready t u h k)),
    )

    pub evicts_by : (D' : ℕ) (v₂ : Noted) (r : Result (Unit {0}) Fault) (m₂ : Pages) (v₃ : Noted) → D' ≡ D → v₂ ≡ staged_drop → Commits D' m₁ v₂ r m₂ v₃ → Evicts D a.0 m v sp r m₂ v₃
    evicts_by D' v₂ r m₂ v₃ large e h = evicts r m₂ v₃ (subst₂ (λ d w. Commits d m₁ w r m₂ v₃) large e h)

pub not_evicted : (D a : ℕ) (m : Pages) (v : Noted) (sp : Space) (f : Fault) (m₁ : Pages) (v₁ : Noted) → MakesRoomy D m v sp (Err f) m₁ v₁ → Evicts D a m v sp (Err f) m₁ v₁
not_evicted D a m v sp f m₁ v₁ (fails, left) = (fails, λ t h. left_more D m₁ (Either (point t (shown m)) (point v.table (shown m))) _ (more t) (left t h))
  where
    more : (t : Table) (x : Point) → Either (point t (shown m)) (point v.table (shown m)) x
        → (x ≡ point t (shown m)) ⊎ ((x ≡ point v.table (shown m)) ⊎ (x ≡ point (without v.table a) (shown m)))
    more t x (inl e) = inl e
    more t x (inr e) = inr (inl e)
