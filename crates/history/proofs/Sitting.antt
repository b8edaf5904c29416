-- A table that sits on its pages and agrees with a history: it still does in a world with room, and where a call commits.
use Rattle.std.proofs.Common.{◌≡◌, ℕ, ◌<◌, Bool, true, false, eqb, List, [], ◌∷◌, length, sym, refl, ap, ◌∙◌, subst, inl, inr, arith}
use Rattle.std.proofs.lemmas.List.{length-append}
use Rattle.std.proofs.lemmas.Bool.{ne_eqb, eqb-true, cond-false, cond_both}
use Rattle.device.specs.Chips.{State, block_of, data_page_at}
use Rattle.layout.specs.declared.areas.Area.TheVariants.{One}
use Rattle.recovery.specs.Recovering.{IsData, Backed}
use Rattle.table.specs.Choices.{dirty_in}
use Rattle.table.specs.Tables.{Table, has_mark, marked_at, entered, ProperTable}
use Rattle.journal.specs.Drops.{spared, dropping}
use Rattle.engine.specs.Moves.{roomy, mark_for, put_for, must_commit, committing_if, putting, written}
use Rattle.journal.specs.Notes.{committed, committed_pages}
use Rattle.space.specs.Rooms.{MakesRoom}
use Rattle.space.specs.Worlds.{World, blank_page, committing, reclaimed, erased_pages, placed, placed_pages}
use Rattle.history.specs.Histories.{History}
use Rattle.history.specs.Following.{Agrees}
use Rattle.history.proofs.Agreeing.{agrees_below, agrees_spared}
use Rattle.engine.proofs.Flushing.{commit_apart, commit_table, commit_empties}
use Rattle.space.proofs.Placing.{blank_is, blank_unmarked}
use Rattle.journal.proofs.Spared.{length_spared, spared_out, dropping_follows}

pub record Sits (D : ℕ) (h : History) (t : Table) (pages : ℕ → State) : Type 0 where
  pub proper : ProperTable t
  pub long : length t ≡ D
  pub backed : Backed pages t D
  pub agrees : Agrees h t pages

abbrev pub WorldSits : ℕ → History → World → Type 0
WorldSits D h w = Sits D h w.noted.table w.pages

module _ (D : ℕ) (h : History) (t : Table) (pages : ℕ → State) (sits : Sits D h t pages) where
  -- pages that read the same where the table marks them
  pub sits_pages : (after : ℕ → State) → ((i : ℕ) → i < D → marked_at t i ≡ true → after (data_page_at i) ≡ pages (data_page_at i)) → Sits D h t after
  sits_pages after same = record {
    proper = sits.proper;
    long = sits.long;
    backed = λ i l marked. let (bytes, is) = sits.backed i l marked in (bytes, same i l marked ∙ is);
    agrees = agrees_below D h t pages after sits.long same sits.agrees;
  }

  -- a block without a dirty page is spared
  pub sits_spared : (b : ℕ) → dirty_in t b ≡ 0 → Sits D h (spared t b) pages
  sits_spared b clean = record {
    proper = (dropping_follows t b (record { table = t; staged = []; area = One; number = 0; next = 0 }) (record { proper = sits.proper; makes = refl; records = tt })).proper;
    long = length_spared t b ∙ sits.long;
    backed = λ i l marked.
        let e = (spared_out t b i marked).1 in
        subst (λ x. IsData (pages (data_page_at i)) x.address.0) (sym e) (sits.backed i l (ap (λ x. has_mark x.mark) (sym e) ∙ marked));
    agrees = agrees_spared t sits.proper b clean h pages sits.agrees;
  }

  -- a blank page has no mark
  pub sits_unmarked : (i : ℕ) → i < D → blank_page pages i ≡ true → marked_at t i ≡ false
  sits_unmarked i l free = blank_unmarked D pages t i sits.backed l (blank_is (pages (data_page_at i)) free)

-- The same table on the same data pages.

pub record SameData (w u : World) : Type 0 where
  pub table : u.noted.table ≡ w.noted.table
  pub pages : (i : ℕ) → u.pages (data_page_at i) ≡ w.pages (data_page_at i)

pub same_itself : (w : World) → SameData w w
same_itself w = record { table = refl; pages = λ i. refl }

pub committing_same : (D : ℕ) (w : World) → SameData w (committing D w)
committing_same D w = record { table = commit_table D w.noted; pages = commit_apart D w.noted w.pages }

pub committing_if_same : (must : Bool) (D : ℕ) (w : World) → SameData w (committing_if must D w)
committing_if_same must D w = cond_both must (committing D w) w (SameData w) (λ _. committing_same D w) (λ _. same_itself w)

pub roomy_same : (D : ℕ) (w : World) → SameData w (roomy D w)
roomy_same D w = committing_if_same (eqb (length w.noted.staged) 64) D w

-- Room

pub reclaimed_sits : (D b : ℕ) (h : History) (w : World) → dirty_in w.noted.table b ≡ 0 → WorldSits D h w → WorldSits D h (reclaimed D b w)
reclaimed_sits D b h w clean sits =
    let t = w.noted.table in
    let v₁ = dropping b (committed D w.noted) in
    let table : (reclaimed D b w).noted.table ≡ spared t b = commit_table D v₁ ∙ ap (λ x. spared x b) (commit_table D w.noted) in
    let s₁ = committed_pages D w.noted w.pages in
    let s₂ = committed_pages D v₁ s₁ in
    subst (λ x. Sits D h x (reclaimed D b w).pages) (sym table)
    (sits_pages D h (spared t b) w.pages (sits_spared D h t w.pages sits b clean) (erased_pages b s₂)
    (λ i l marked.
    cond-false (eqb (block_of (data_page_at i)) b) _ (s₂ (data_page_at i)) (ne_eqb (block_of (data_page_at i)) b (spared_out t b i marked).0)
    ∙ commit_apart D v₁ s₁ i ∙ commit_apart D w.noted w.pages i))

pub room_sits : (D blocks : ℕ) (h : History) (w u : World) → MakesRoom D blocks w u → WorldSits D h w → WorldSits D h u
room_sits D blocks h w u (inl (same, free)) sits = subst (WorldSits D h) (sym same) sits
room_sits D blocks h w u (inr (none, (b, victim, made))) sits =
    subst (WorldSits D h) (sym made) (reclaimed_sits D b h w (eqb-true (dirty_in w.noted.table b) 0 victim.fit) sits)

-- A write

module _ (D : ℕ) (dirty : Bool) (a : ℕ) (bytes : List ℕ) (i : ℕ) (u : World) where
  abbrev room : World
  room = roomy D (placed D i a bytes u)

  abbrev put : World
  put = putting dirty i a room

  pub written_table : (written D dirty a bytes i u).noted.table ≡ entered u.noted.table i (mark_for dirty) a
  written_table = (committing_if_same (must_commit dirty a u) D put).table ∙ ap (λ t. entered t i (mark_for dirty) a) (roomy_same D (placed D i a bytes u)).table

  pub written_pages : (j : ℕ) → (written D dirty a bytes i u).pages (data_page_at j) ≡ placed_pages i a bytes u.pages (data_page_at j)
  written_pages j = (committing_if_same (must_commit dirty a u) D put).pages j ∙ (roomy_same D (placed D i a bytes u)).pages j

  -- a commit leaves nothing staged
  pub written_staged : must_commit dirty a u ≡ true → length (written D dirty a bytes i u).noted.staged ≡ 0
  written_staged must =
      subst (λ c. length (committing_if c D put).noted.staged ≡ 0) (sym must)
      (commit_empties D put.noted (omega (arith, length-append room.noted.staged (put_for dirty i a ∷ []))))
