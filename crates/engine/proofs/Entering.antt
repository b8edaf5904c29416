-- A page that is held enters an address: the put is staged, the table changes with it, and a commit comes if it must.
use Rattle.std.proofs.Common.{◌≡◌, ℕ, ◌<◌, ◌≤◌, Bool, true, false, not, ◌&&◌, ◌||◌, ltb, ◌≢◌, ◌⊎◌, [], ◌∷◌, length, Some, None, Ok, Err, Result, sym, refl, ap, ◌∙◌, subst, inl, inr, ⊎_elim, arith}
use denote.Enum.Bare.{sameb}
use Rattle.std.proofs.ByRecursion.{All-push}
use Rattle.std.proofs.lemmas.List.{length-append}
use Rattle.std.proofs.lemmas.Bool.{lt-ltb, and_from, or_left, not_from_false, both_ways, cases_Bool, cases_eq, cond-true, cond-false}
use Rattle.device.specs.declared.faults.Fault.{Fault}
use Rattle.device.specs.Chips.{State, Pages, data_page_at}
use Rattle.layout.specs.declared.entries.Mark.{Mark}
use Rattle.layout.specs.declared.entries.Mark.TheVariants.{Empty, Clean, Dirty}
use Rattle.layout.specs.contracts.entries.Mark.{the_type}
use Rattle.layout.specs.declared.records.Record.{Record}
use Rattle.layout.specs.Records.{ProperRecord}
use Rattle.recovery.specs.Looking.{shown}
use Rattle.recovery.specs.Recovering.{IsData, Backed}
use Rattle.table.specs.Tables.{Table, entry, empty, entry_at, has_mark, marked_at, holds, held, mark_of, entered, apply, next_table}
use Rattle.table.proofs.Tablewise.{holds_parts, holds_one, held_at, held_page}
use Rattle.table.proofs.Changing.{length_entered, entered_here, entered_other, entered_alone, alone_held, entered_proper, replayed_append}
use Rattle.space.specs.declared.blanks.Space.{Space}
use Rattle.engine.specs.Moves.{mark_for, put_for, putting, must_commit}
use Rattle.journal.specs.Notes.{Noted, staging, committed_pages}
use Rattle.journal.specs.Ready.{Ready}
use Rattle.journal.specs.Steps.{Commits}
use Rattle.engine.specs.Works.{Onward, Holding, Enters}
use Rattle.space.specs.Worlds.{World, world, committing}
use Rattle.journal.proofs.Settledness.{lands_settled}
use Rattle.engine.proofs.Roomily.{commit_world, commit_table, commit_holding}

pub marks : (dirty : Bool) → has_mark (mark_for dirty) ≡ true
marks true = refl
marks false = refl

-- Whether an address is held, by its mark.

mark_held : (t : Table) (a : ℕ) → has_mark (mark_of t a) ≡ held t a
mark_held [] a = refl
mark_held (e ∷ es) a = ⊎_elim
    (λ (y : holds a e ≡ true). ap has_mark (cond-true (holds a e) e.mark (mark_of es a) y) ∙ (holds_parts a e y).0 ∙ sym (or_left (holds a e) (held es a) y))
    (λ (n : holds a e ≡ false). ap has_mark (cond-false (holds a e) e.mark (mark_of es a) n) ∙ mark_held es a ∙ sym (ap (λ x. x || held es a) n))
    (cases_Bool (holds a e))

pub held_by_mark : (t : Table) (a : ℕ) (mark : Mark) (r : Bool) → mark ≡ mark_of t a → r ≡ not (sameb the_type mark Empty) → r ≡ held t a
held_by_mark t a Empty r is q = q ∙ ap has_mark is ∙ mark_held t a
held_by_mark t a Clean r is q = q ∙ ap has_mark is ∙ mark_held t a
held_by_mark t a Dirty r is q = q ∙ ap has_mark is ∙ mark_held t a

pub must_by : (dirty r : Bool) (a : ℕ) (w : World) → r ≡ held w.noted.table a → (dirty ≡ true) ⊎ ((dirty ≡ false) × (r ≡ true)) → must_commit dirty a w ≡ true
must_by dirty r a w is (inl e) = cond-true dirty true (held w.noted.table a) e
must_by dirty r a w is (inr (e, y)) = cond-false dirty true (held w.noted.table a) e ∙ sym is ∙ y

-- The table that a put makes: what it marks, and what it holds.

module _ (t : Table) (i : ℕ) (mark : Mark) (a : ℕ) where
  -- a page that has a mark still, and is not the new one, has the entry that it had
  entered_stays : (j : ℕ) → j ≢ i → marked_at (entered t i mark a) j ≡ true → entry_at (entered t i mark a) j ≡ entry_at t j
  entered_stays j ne h =
      let e = entry_at t j in
      let s = entered_other t i mark a j ne in
      ⊎_elim
      (λ (y : holds a e ≡ true). absurd (both_ways true (sym (ap (λ x. has_mark x.mark) (sym (cond-true (holds a e) empty e y) ∙ sym s) ∙ h)) refl))
      (λ (n : holds a e ≡ false). s ∙ cond-false (holds a e) empty e n)
      (cases_Bool (holds a e))

  pub entered_backed : (D : ℕ) (pages : ℕ → State) → i < length t → Backed pages t D → IsData (pages (data_page_at i)) a → Backed pages (entered t i mark a) D
  entered_backed D pages inside backed data_here j l h =
      ⊎_elim
      (λ (e : j ≡ i).
      let at : entry_at (entered t i mark a) j ≡ entry mark a = ap (entry_at (entered t i mark a)) e ∙ entered_here t i mark a inside in
      subst (IsData (pages (data_page_at j))) (sym (ap (λ x. x.address.0) at)) (subst (λ k. IsData (pages (data_page_at k)) a) (sym e) data_here))
      (λ (ne : j ≢ i).
      let at = entered_stays j ne h in
      subst (IsData (pages (data_page_at j))) (sym (ap (λ x. x.address.0) at)) (backed j l (ap (λ x. has_mark x.mark) (sym at) ∙ h)))
      (cases_eq j i)

  -- everything that was held is held, and the address is
  pub entered_onward : i < length t → marked_at t i ≡ false → has_mark mark ≡ true → Onward t (entered t i mark a)
  entered_onward inside unmarked marked b h =
      ⊎_elim
      (λ (e : a ≡ b). subst (λ x. held (entered t i mark a) x ≡ true) e (alone_held (entered t i mark a) a i (entered_alone t i mark a inside marked)))
      (λ (ne : a ≡ b → ⊥). other ne (held_page t b h))
      (cases_eq a b)
    where
      other : (a ≡ b → ⊥) → (j : ℕ) × (j < length t) × (holds b (entry_at t j) ≡ true) → held (entered t i mark a) b ≡ true
      other ne (j, l, k) =
          let e = entry_at t j in
          let apart : j ≢ i = λ same. both_ways (marked_at t i) unmarked (subst (λ x. marked_at t x ≡ true) same (holds_parts b e k).0) in
          let not_a : holds a e ≡ false = ⊎_elim (λ y. absurd (ne (holds_one a b e y k))) (λ n. n) (cases_Bool (holds a e)) in
          held_at (entered t i mark a) b j (ap (holds b) (entered_other t i mark a j apart ∙ cond-false (holds a e) empty e not_a) ∙ k)

-- the record of a put does that to the table
put_applies : (t : Table) (dirty : Bool) (i a : ℕ) → i < length t → marked_at t i ≡ false → apply t (put_for dirty i a) ≡ Some (entered t i (mark_for dirty) a)
put_applies t true i a inside unmarked = cond-true (ltb i (length t) && not (marked_at t i)) (Some (entered t i Dirty a)) None (and_from _ _ (lt-ltb i (length t) inside) (not_from_false _ unmarked))
put_applies t false i a inside unmarked = cond-true (ltb i (length t) && not (marked_at t i)) (Some (entered t i Clean a)) None (and_from _ _ (lt-ltb i (length t) inside) (not_from_false _ unmarked))

put_proper : (dirty : Bool) (i a : ℕ) → i < 65536 → a < 4294967296 → ProperRecord (put_for dirty i a)
put_proper true i a l s = (l, s)
put_proper false i a l s = (l, s)

-- Staging the put.

abbrev pub with_put : Bool → ℕ → ℕ → Noted → Noted
with_put dirty i a v = staging v (entered v.table i (mark_for dirty) a) (put_for dirty i a)

-- the record, known to be the put, can be staged
pub put_fits : (dirty : Bool) (i a : ℕ) (t : Table) (r : Record) → i < length t → marked_at t i ≡ false → r ≡ put_for dirty i a → (u : Table) × (apply t r ≡ Some u)
put_fits dirty i a t r inside unmarked is = (entered t i (mark_for dirty) a, ap (apply t) is ∙ put_applies t dirty i a inside unmarked)

-- and what is staged then
pub put_staged : (dirty : Bool) (i a : ℕ) (v v₁ : Noted) (r : Record) → i < length v.table → marked_at v.table i ≡ false → r ≡ put_for dirty i a
    → ((t : Table) → apply v.table r ≡ Some t → v₁ ≡ staging v t r) → v₁ ≡ with_put dirty i a v
unfolding put_fits
put_staged dirty i a v v₁ r inside unmarked is after =
    let u = entered v.table i (mark_for dirty) a in
    after u (put_fits dirty i a v.table r inside unmarked is).1 ∙ ap (staging v u) is

module _ (D : ℕ) (dirty : Bool) (i a : ℕ) (m : Pages) (v : Noted) (room : length v.staged < 64) (inside : i < D) (unmarked : marked_at v.table i ≡ false)
    (data_here : IsData (shown m (data_page_at i)) a) (small : a < 4294967296) where
  put_ready : (t : Table) → Ready D m v t → Ready D m (with_put dirty i a v) t
  put_ready t h =
      let l : i < length v.table = subst (λ n. i < n) (sym h.long) inside in
      let more : D ≤ 448 = omega (arith, h.few, h.large) in
      record {
        power = h.power;
        enough = h.enough;
        few = h.few;
        large = h.large;
        holds = h.holds;
        small = h.small;
        makes = replayed_append (Some t) v.staged (put_for dirty i a ∷ []) ∙ ap (λ o. next_table o (put_for dirty i a)) h.makes ∙ put_applies v.table dirty i a l unmarked;
        room = omega (arith, length-append v.staged (put_for dirty i a ∷ []), room);
        records = All-push ProperRecord v.staged (put_for dirty i a) h.records (put_proper dirty i a (omega (arith, more, inside)) small);
        long = length_entered v.table i (mark_for dirty) a ∙ h.long;
        proper = entered_proper v.table h.proper i (mark_for dirty) a l (marks dirty) small;
        ends = h.ends;
        ahead = h.ahead;
        areas = h.areas;
        firm = h.firm;
        backed = entered_backed v.table i (mark_for dirty) a D (shown m) l h.backed data_here;
        blanks = h.blanks;
      }

  pub put_holding : (sp : Space) (t : Table) → Holding D m v sp t → Holding D m (with_put dirty i a v) sp t
  put_holding sp t h = record {
    keeps = record { ready = put_ready t h.keeps.ready; fits = h.keeps.fits };
    onward = λ b k. entered_onward v.table i (mark_for dirty) a (subst (λ n. i < n) (sym h.keeps.ready.long) inside) unmarked (marks dirty) b (h.onward b k);
  }

  -- a put that is not committed
  pub enters_later : (sp : Space) → dirty ≡ false → held v.table a ≡ false → Enters D dirty i a m v sp (Ok tt) m (with_put dirty i a v)
  enters_later sp clean new =
      let free : must_commit dirty a (world m v sp) ≡ false = cond-false dirty true (held v.table a) clean ∙ new in (
        refl,
        (
          sym (cond-false (must_commit dirty a (world m v sp)) (committing D (putting dirty i a (world m v sp))) (putting dirty i a (world m v sp)) free),
          λ must. absurd (both_ways (must_commit dirty a (world m v sp)) free must),
        ),
        λ t h. (t, put_holding sp t h, inr (⊎_elim (λ y. absurd (both_ways (held v.table a) new (h.onward a y))) (λ n. n) (cases_Bool (held t a)), refl)),
      )

  -- one that is
  pub enters_now : (sp : Space) (r : Result (Unit {0}) Fault) (m' : Pages) (v' : Noted) → must_commit dirty a (world m v sp) ≡ true → Commits D m (with_put dirty i a v) r m' v'
      → Enters D dirty i a m v sp r m' v'
  enters_now sp (Ok tt) m' v' must done =
      let w = with_put dirty i a v in (
        done.0.size,
        (
          commit_world D m w sp m' v' done ∙ sym (cond-true (must_commit dirty a (world m v sp)) (committing D (putting dirty i a (world m v sp))) (putting dirty i a (world m v sp)) must),
          λ _. lands_settled m m' (committed_pages D w (shown m)) done.0,
        ),
        λ t h. (w.table, commit_holding D m w sp m' v' done t (put_holding sp t h), inl (sym (commit_table D m w sp m' v' done))),
      )
  enters_now sp (Err f) m' v' must done = (done.0, λ t h. done.1 t (put_ready t h.keeps.ready))
