-- What a change of the table, or of the pages, leaves of their agreement with a history.
use Rattle.std.proofs.Common.{◌≡◌, ℕ, zero, suc, ◌+◌, ◌<◌, Bool, true, false, cond, ◌&&◌, eqb, ◌⊎◌, List, [], ◌∷◌, length, sym, refl, ap, ◌∙◌, subst, inl, inr, ⊎_elim, arith}
use Rattle.std.proofs.lemmas.Bool.{and_from, eq-eqb, ne_eqb, eqb-true, eqb-false, both_ways, cases_Bool, cond-true, cond-false, cond_both}
use Rattle.device.specs.Chips.{State, data_page_at}
use Rattle.layout.specs.declared.entries.Entry.{Entry}
use Rattle.layout.specs.declared.entries.Mark.{Mark}
use Rattle.layout.specs.declared.entries.Mark.TheVariants.{Clean, Dirty}
use Rattle.table.specs.Choices.{tally, dirty_in}
use Rattle.table.specs.Tables.{Table, entry, empty, is_dirty, entry_at, marked_at, holds, held, without, cleaned, entered, ProperTable}
use Rattle.table.proofs.Tablewise.{holds_parts, holds_from, holds_one, holds_inside, held_at, unheld_from}
use Rattle.table.proofs.Changing.{without_at, cleaned_at, entered_here, entered_other, held_without}
use Rattle.table.proofs.Elsewhere.{held_without_other, held_cleaned, held_entered_other}
use Rattle.journal.specs.Drops.{in_block, spared}
use Rattle.space.specs.Worlds.{placed_pages}
use Rattle.engine.specs.Moves.{mark_for}
use Rattle.history.specs.Histories.{Slot, History, with_slot, no_longer_kept}
use Rattle.history.specs.Histories.Slot.{absent, cached, kept}
use Rattle.history.specs.Following.{PageHas, SlotIs, Agrees}
use Rattle.journal.proofs.Spared.{spared_at, spared_out}

-- One address through a change.

-- the page has the entry that it had, and reads as it did
abbrev PageStays : Table → (ℕ → State) → Table → (ℕ → State) → ℕ → Type 0
PageStays t pages u after i = (entry_at u i ≡ entry_at t i) × (after (data_page_at i) ≡ pages (data_page_at i))

-- An address that was not held is not held. The page that held it stays; or it was not dirty, and none holds the address any more.
pub record AddressStays (b : ℕ) (t : Table) (pages : ℕ → State) (u : Table) (after : ℕ → State) : Type 0 where
  pub unheld : held t b ≡ false → held u b ≡ false
  pub there : (i : ℕ) → holds b (entry_at t i) ≡ true → PageStays t pages u after i ⊎ ((is_dirty (entry_at t i).mark ≡ false) × (held u b ≡ false))

dirty_holds : (b : ℕ) (e : Entry) → e ≡ entry Dirty b → holds b e ≡ true
dirty_holds b e is = ap (holds b) is ∙ holds_from b (entry Dirty b) refl refl

-- an entry that holds one address does not hold another
holds_no_other : (a b : ℕ) (e : Entry) → (a ≡ b → ⊥) → holds b e ≡ true → holds a e ≡ false
holds_no_other a b e other h = ⊎_elim (λ y. absurd (other (holds_one a b e y h))) (λ n. n) (cases_Bool (holds a e))

module _ (t : Table) (pages : ℕ → State) (u : Table) (after : ℕ → State) where
  pub slot_stays : (s : Slot) (b : ℕ) → AddressStays b t pages u after → SlotIs s t pages b → SlotIs s u after b
  slot_stays absent b h k = h.unheld k
  slot_stays (cached bytes) b h (inl n) = inl (h.unheld n)
  slot_stays (cached bytes) b h (inr (i, at, has)) =
      ⊎_elim (λ stays. inr (i, ap (holds b) stays.0 ∙ at, stays.1 ∙ has)) (λ gone. inl gone.1) (h.there i at)
  slot_stays (kept bytes) b h (i, is, has) =
      ⊎_elim
      (λ stays. (i, stays.0 ∙ is, stays.1 ∙ has))
      (λ gone. absurd (both_ways (is_dirty (entry_at t i).mark) gone.0 (ap (λ e. is_dirty e.mark) is)))
      (h.there i (dirty_holds b (entry_at t i) is))

  module _ (h : History) (agrees : Agrees h t pages) where
    pub agrees_stays : ((b : ℕ) → AddressStays b t pages u after) → Agrees h u after
    agrees_stays each b = slot_stays (h b) b (each b) (agrees b)

    -- one address has a new slot, and the others stay
    pub agrees_with : (a : ℕ) (slot : Slot) → SlotIs slot u after a → ((b : ℕ) → (a ≡ b → ⊥) → AddressStays b t pages u after) → Agrees (with_slot h a slot) u after
    agrees_with a slot here others b =
        cond_both (eqb b a) slot (h b) (λ s. SlotIs s u after b)
        (λ e. subst (λ n. SlotIs slot u after n) (sym (eqb-true b a e)) here)
        (λ n. slot_stays (h b) b (others b (λ e. eqb-false b a n (sym e))) (agrees b))

stays_itself : (t : Table) (pages : ℕ → State) (b : ℕ) → AddressStays b t pages t pages
stays_itself t pages b = record { unheld = λ n. n; there = λ i at. inl (refl, refl) }

-- Other pages

-- that read the same where the table marks them
pub agrees_pages : (h : History) (t : Table) (pages after : ℕ → State) → ((i : ℕ) → marked_at t i ≡ true → after (data_page_at i) ≡ pages (data_page_at i))
    → Agrees h t pages → Agrees h t after
agrees_pages h t pages after same agrees =
    agrees_stays t pages t after h agrees (λ b. record { unheld = λ n. n; there = λ i at. inl (refl, same i (holds_parts b (entry_at t i) at).0) })

marked_inside : (t : Table) (i : ℕ) → marked_at t i ≡ true → i < length t
marked_inside t i h = holds_inside t (entry_at t i).address.0 i (holds_from (entry_at t i).address.0 (entry_at t i) h refl)

-- the same of a table with D entries, of the pages below D
pub agrees_below : (D : ℕ) (h : History) (t : Table) (pages after : ℕ → State) → length t ≡ D
    → ((i : ℕ) → i < D → marked_at t i ≡ true → after (data_page_at i) ≡ pages (data_page_at i)) → Agrees h t pages → Agrees h t after
agrees_below D h t pages after long same agrees =
    agrees_pages h t pages after (λ i marked. same i (subst (λ n. i < n) long (marked_inside t i marked)) marked) agrees

-- Dropped and cleaned

module _ (h : History) (t : Table) (pages : ℕ → State) (agrees : Agrees h t pages) (a : ℕ) where
  pub agrees_without : Agrees (with_slot h a absent) (without t a) pages
  agrees_without =
      agrees_with t pages (without t a) pages h agrees a absent (held_without t a)
      (λ b other. record {
        unheld = λ n. held_without_other t a b other ∙ n;
        there = λ i at. inl (without_at t a i ∙ cond-false (holds a (entry_at t i)) empty (entry_at t i) (holds_no_other a b (entry_at t i) other at), refl);
      })

  -- bytes that are no longer kept may be on a page that is still dirty
  slot_lapses : (s : Slot) → SlotIs s t pages a → SlotIs (no_longer_kept s) t pages a
  slot_lapses absent k = k
  slot_lapses (cached bytes) k = k
  slot_lapses (kept bytes) (i, is, has) = inr (i, dirty_holds a (entry_at t i) is, has)

  pub agrees_lapsed : Agrees (with_slot h a (no_longer_kept (h a))) t pages
  agrees_lapsed = agrees_with t pages t pages h agrees a (no_longer_kept (h a)) (slot_lapses (h a) (agrees a)) (λ b other. stays_itself t pages b)

  cleaned_cached : (bytes : List ℕ) → SlotIs (cached bytes) t pages a → SlotIs (cached bytes) (cleaned t a) pages a
  cleaned_cached bytes (inl n) = inl (held_cleaned t a a ∙ n)
  cleaned_cached bytes (inr (i, at, has)) =
      inr (i, ap (holds a) (cleaned_at t a i ∙ cond-true (holds a (entry_at t i)) (entry Clean a) (entry_at t i) at) ∙ holds_from a (entry Clean a) refl refl, has)

  slot_cleaned : (s : Slot) → SlotIs s t pages a → SlotIs (no_longer_kept s) (cleaned t a) pages a
  slot_cleaned absent k = held_cleaned t a a ∙ k
  slot_cleaned (cached bytes) k = cleaned_cached bytes k
  slot_cleaned (kept bytes) k = cleaned_cached bytes (slot_lapses (kept bytes) k)

  pub agrees_cleaned : Agrees (with_slot h a (no_longer_kept (h a))) (cleaned t a) pages
  agrees_cleaned =
      agrees_with t pages (cleaned t a) pages h agrees a (no_longer_kept (h a)) (slot_cleaned (h a) (agrees a))
      (λ b other. record {
        unheld = λ n. held_cleaned t a b ∙ n;
        there = λ i at. inl (cleaned_at t a i ∙ cond-false (holds a (entry_at t i)) (entry Clean a) (entry_at t i) (holds_no_other a b (entry_at t i) other at), refl);
      })

  -- cached bytes need not be on a page
  pub agrees_dropped_new : (bytes : List ℕ) → held t a ≡ false → Agrees (with_slot h a (cached bytes)) t pages
  agrees_dropped_new bytes n = agrees_with t pages t pages h agrees a (cached bytes) (inl n) (λ b other. stays_itself t pages b)

-- A page enters an address

abbrev pub slot_for : Bool → List ℕ → Slot
slot_for dirty bytes = cond dirty (kept bytes) (cached bytes)

module _ (i a : ℕ) (bytes : List ℕ) (pages : ℕ → State) where
  pub placed_here : PageHas (placed_pages i a bytes pages) i a bytes
  placed_here = cond-true (eqb (data_page_at i) (data_page_at i)) _ (pages (data_page_at i)) (eq-eqb (data_page_at i) (data_page_at i) refl)

  pub placed_away : (j : ℕ) → (j ≡ i → ⊥) → placed_pages i a bytes pages (data_page_at j) ≡ pages (data_page_at j)
  placed_away j ne = cond-false (eqb (data_page_at j) (data_page_at i)) _ (pages (data_page_at j)) (ne_eqb (data_page_at j) (data_page_at i) (λ e. ne (omega arith)))

module _ (t : Table) (i a : ℕ) (bytes : List ℕ) (pages : ℕ → State) (unmarked : marked_at t i ≡ false) (inside : i < length t) where
  slot_entered : (dirty : Bool) → SlotIs (slot_for dirty bytes) (entered t i (mark_for dirty) a) (placed_pages i a bytes pages) a
  slot_entered true = (i, entered_here t i Dirty a inside, placed_here i a bytes pages)
  slot_entered false = inr (i, ap (holds a) (entered_here t i Clean a inside) ∙ holds_from a (entry Clean a) refl refl, placed_here i a bytes pages)

  entered_stays : (m : Mark) (b : ℕ) → (a ≡ b → ⊥) → AddressStays b t pages (entered t i m a) (placed_pages i a bytes pages)
  entered_stays m b other = record {
    unheld = λ n. held_entered_other t i m a b other unmarked ∙ n;
    there = λ j at.
        let ne : j ≡ i → ⊥ = λ e. both_ways (marked_at t j) (ap (marked_at t) e ∙ unmarked) (holds_parts b (entry_at t j) at).0 in
        inl (entered_other t i m a j ne ∙ cond-false (holds a (entry_at t j)) empty (entry_at t j) (holds_no_other a b (entry_at t j) other at), placed_away i a bytes pages j ne);
  }

  pub agrees_entered : (dirty : Bool) (h : History) → Agrees h t pages
      → Agrees (with_slot h a (slot_for dirty bytes)) (entered t i (mark_for dirty) a) (placed_pages i a bytes pages)
  agrees_entered dirty h agrees =
      agrees_with t pages (entered t i (mark_for dirty) a) (placed_pages i a bytes pages) h agrees a (slot_for dirty bytes) (slot_entered dirty) (entered_stays (mark_for dirty))

-- An erase block without a dirty page is spared

none_there : (test : Entry → Bool) (t : Table) (i b j n : ℕ) → i + j ≡ n → tally test t i b ≡ 0 → j < length t → in_block b n ≡ true → test (entry_at t j) ≡ false
none_there test [] i b j n e none l at = absurd (omega arith)
none_there test (x ∷ xs) i b zero n e none l at =
    ⊎_elim
    (λ y.
    let same : i ≡ n = omega arith in
    let both : (in_block b i && test x) ≡ true = and_from (in_block b i) (test x) (ap (in_block b) same ∙ at) y in
    absurd (omega (arith, none, cond-true {A = ℕ} (in_block b i && test x) 1 0 both)))
    (λ no. no)
    (cases_Bool (test x))
none_there test (x ∷ xs) i b (suc j) n e none l at = none_there test xs (suc i) b j n (omega arith) (omega (arith, none)) (omega arith) at

module _ (t : Table) (proper : ProperTable t) (block : ℕ) (clean : dirty_in t block ≡ 0) where
  not_dirty : (i : ℕ) → i < length t → in_block block i ≡ true → is_dirty (entry_at t i).mark ≡ false
  not_dirty i l at = none_there (λ e. is_dirty e.mark) t 0 block i i (omega arith) clean l at

  -- what is held then was held
  spared_holds : (b i : ℕ) → holds b (entry_at (spared t block) i) ≡ true → holds b (entry_at t i) ≡ true
  spared_holds b i h = ap (holds b) (sym (spared_out t block i (holds_parts b (entry_at (spared t block) i) h).0).1) ∙ h

  -- where only pages of the block held an address, none holds it then
  spared_unheld : (b : ℕ) → ((i : ℕ) → holds b (entry_at t i) ≡ true → in_block block i ≡ true) → held (spared t block) b ≡ false
  spared_unheld b inside =
      unheld_from (spared t block) b
      (λ i l.
      ⊎_elim
      (λ y.
      let gone = spared_at t block i ∙ cond-true (in_block block i) empty (entry_at t i) (inside i (spared_holds b i y)) in
      absurd (both_ways (holds b (entry_at (spared t block) i)) (ap (holds b) gone) y))
      (λ n. n)
      (cases_Bool (holds b (entry_at (spared t block) i))))

  pub spared_stays : (pages : ℕ → State) (b : ℕ) → AddressStays b t pages (spared t block) pages
  spared_stays pages b = record {
    unheld = λ n. spared_unheld b (λ i at. absurd (both_ways (held t b) n (held_at t b i at)));
    there = λ i at.
        ⊎_elim
        (λ y. inr (not_dirty i (holds_inside t b i at) y, spared_unheld b (λ j k. ap (in_block block) (proper.distinct j i b k at) ∙ y)))
        (λ n. inl (spared_at t block i ∙ cond-false (in_block block i) empty (entry_at t i) n, refl))
        (cases_Bool (in_block block i));
  }

  pub agrees_spared : (h : History) (pages : ℕ → State) → Agrees h t pages → Agrees h (spared t block) pages
  agrees_spared h pages agrees = agrees_stays t pages (spared t block) pages h agrees (spared_stays pages)
