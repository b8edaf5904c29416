-- What becomes of a table by a put, a drop and a mark: entry by entry, who holds an address then, and that it stays proper.
use Rattle.std.proofs.Common.{◌≡◌, ℕ, ◌<◌, Bool, true, false, cond, not, ◌&&◌, ltb, ◌≢◌, List, [], ◌∷◌, ◌++◌, length, set, is_ok, Some, None, Ok, Err, Option, Result, sym, refl, ap, ◌∙◌, subst, ⊎_elim, arith}
use lib.ListN.{get_or-map, length-replicate, get_or-replicate}
use Rattle.std.proofs.ByRecursion.{All-from_get_or}
use Rattle.std.proofs.lemmas.List.{get_or_past, get_or-set_same, get_or-set_other, length-set, length-map, ext_get_or}
use Rattle.std.proofs.lemmas.Bool.{and_parts, ltb-true, eqb-true, both_ways, false_from_ne_true, cases_Bool, cases_eq, cases_lt, cond-true, cond-false, cond_both}
use Rattle.std.specs.List.{AllByRecursion}
use Rattle.layout.specs.declared.entries.Entry.{Entry}
use Rattle.layout.specs.declared.entries.Mark.{Mark}
use Rattle.layout.specs.declared.entries.Mark.TheVariants.{Empty, Clean, Dirty}
use Rattle.layout.specs.declared.records.Record.{Record}
use Rattle.layout.specs.declared.records.Record.TheVariants.{PutClean, PutDirty, Drop, MarkClean}
use Rattle.layout.specs.Entries.{ProperEntry}
use Rattle.layout.specs.Records.{ProperRecord}
use Rattle.table.specs.declared.changes.Breach.{Breach}
use Rattle.table.specs.Tables.{Table, entry, empty, empty_table, has_mark, entry_at, marked_at, holds, held, mark_of, emptied, without, cleaned_entry, cleaned, entered, put, apply, next_table, replayed, ProperTable}
use Rattle.table.specs.Views.{AloneAt, entry_with, remarked_entry, remarked, may_enter, Turns}
use Rattle.table.proofs.Tablewise.{holds_parts, holds_from, held_at, unheld_at, unheld_from, mark_at, mark_unheld, held_fits, marked_fits, entry_proper}

-- Entry by entry

module _ (t : Table) (m : Mark) (a : ℕ) where
  pub length_remarked : length (remarked t m a) ≡ length t
  length_remarked = length-map t (remarked_entry m a)

  pub remarked_at : (i : ℕ) → entry_at (remarked t m a) i ≡ remarked_entry m a (entry_at t i)
  remarked_at i = get_or-map (remarked_entry m a) t i empty

module _ (t : Table) (a : ℕ) where
  pub length_without : length (without t a) ≡ length t
  length_without = length_remarked t Empty a

  pub length_cleaned : length (cleaned t a) ≡ length t
  length_cleaned = length_remarked t Clean a

  pub without_at : (i : ℕ) → entry_at (without t a) i ≡ emptied a (entry_at t i)
  without_at i = remarked_at t Empty a i

  pub cleaned_at : (i : ℕ) → entry_at (cleaned t a) i ≡ cleaned_entry a (entry_at t i)
  cleaned_at i = remarked_at t Clean a i

module _ (t : Table) (p : ℕ) (m : Mark) (a : ℕ) where
  pub length_entered : length (entered t p m a) ≡ length t
  length_entered = length-set (without t a) p (entry m a) ∙ length_without t a

  pub entered_here : p < length t → entry_at (entered t p m a) p ≡ entry m a
  entered_here l = get_or-set_same (without t a) p (entry m a) empty (omega (arith, length_without t a))

  pub entered_other : (i : ℕ) → i ≢ p → entry_at (entered t p m a) i ≡ emptied a (entry_at t i)
  entered_other i ne = get_or-set_other (without t a) p i (entry m a) empty ne ∙ without_at t a i

-- Who holds an address then

-- an emptied entry no longer holds the address
pub emptied_not : (a : ℕ) (e : Entry) → holds a (emptied a e) ≡ false
emptied_not a e =
    ⊎_elim
    (λ y. ap (holds a) (cond-true (holds a e) empty e y))
    (λ n. ap (holds a) (cond-false (holds a e) empty e n) ∙ n)
    (cases_Bool (holds a e))

pub with_holds : (m : Mark) (a b : ℕ) → holds b (entry_with m a) ≡ true → a ≡ b
with_holds Empty a b h = absurd (both_ways false refl h)
with_holds Clean a b h = eqb-true a b h
with_holds Dirty a b h = eqb-true a b h

-- with another mark, an entry holds nothing that it did not hold
pub remarked_holds : (m : Mark) (a b : ℕ) (e : Entry) → holds b (remarked_entry m a e) ≡ true → holds b e ≡ true
remarked_holds m a b e h =
    ⊎_elim
    (λ y.
    let p = holds_parts a e y in
    holds_from b e p.0 (p.1 ∙ with_holds m a b (ap (holds b) (sym (cond-true (holds a e) (entry_with m a) e y)) ∙ h)))
    (λ n. ap (holds b) (sym (cond-false (holds a e) (entry_with m a) e n)) ∙ h)
    (cases_Bool (holds a e))

pub held_without : (t : Table) (a : ℕ) → held (without t a) a ≡ false
held_without t a = unheld_from (without t a) a (λ i l. ap (holds a) (without_at t a i) ∙ emptied_not a (entry_at t i))

pub mark_without : (t : Table) (a : ℕ) → mark_of (without t a) a ≡ Empty
mark_without t a = mark_unheld (without t a) a (held_without t a)

-- a page that enters an address holds it alone
pub entered_alone : (t : Table) (p : ℕ) (m : Mark) (a : ℕ) → p < length t → has_mark m ≡ true → AloneAt (entered t p m a) a p
entered_alone t p m a l h = record {
  inside = omega (arith, length_entered t p m a);
  here = ap (holds a) (entered_here t p m a l) ∙ holds_from a (entry m a) h refl;
  alone = λ j k.
      ⊎_elim
      (λ same. same)
      (λ ne. absurd (both_ways (holds a (emptied a (entry_at t j))) (emptied_not a (entry_at t j)) (ap (holds a) (sym (entered_other t p m a j ne)) ∙ k)))
      (cases_eq j p);
}

pub alone_mark : (t : Table) (a p : ℕ) → AloneAt t a p → mark_of t a ≡ (entry_at t p).mark
alone_mark t a p h = mark_at t a p h.here h.alone

pub alone_held : (t : Table) (a p : ℕ) → AloneAt t a p → held t a ≡ true
alone_held t a p h = held_at t a p h.here

pub mark_entered : (t : Table) (p : ℕ) (m : Mark) (a : ℕ) → p < length t → has_mark m ≡ true → mark_of (entered t p m a) a ≡ m
mark_entered t p m a l h =
    alone_mark (entered t p m a) a p (entered_alone t p m a l h) ∙ ap (λ e. e.mark) (entered_here t p m a l)

-- A change as a change of one entry, or of none

module _ (t : Table) (a p : ℕ) (only : AloneAt t a p) where
  others : (i : ℕ) → i ≢ p → holds a (entry_at t i) ≡ false
  others i ne = false_from_ne_true (holds a (entry_at t i)) (λ y. ne (only.alone i y))

  pub remarked_one : (m : Mark) → remarked t m a ≡ set t p (entry_with m a)
  remarked_one m =
      let e = entry_with m a in
      ext_get_or empty (remarked t m a) (set t p e) (length_remarked t m a ∙ sym (length-set t p e))
      (λ i l.
      ⊎_elim
      (λ same.
      remarked_at t m a i
      ∙ cond-true (holds a (entry_at t i)) e (entry_at t i) (subst (λ k. holds a (entry_at t k) ≡ true) (sym same) only.here)
      ∙ sym (get_or-set_same t p e empty only.inside)
      ∙ ap (entry_at (set t p e)) (sym same))
      (λ ne. remarked_at t m a i ∙ cond-false (holds a (entry_at t i)) e (entry_at t i) (others i ne) ∙ sym (get_or-set_other t p i e empty ne))
      (cases_eq i p))

  pub without_one : without t a ≡ set t p empty
  without_one = remarked_one Empty

  pub cleaned_one : cleaned t a ≡ set t p (entry Clean a)
  cleaned_one = remarked_one Clean

module _ (t : Table) (a : ℕ) (unheld : held t a ≡ false) where
  pub remarked_none : (m : Mark) → remarked t m a ≡ t
  remarked_none m =
      ext_get_or empty (remarked t m a) t (length_remarked t m a)
      (λ i l. remarked_at t m a i ∙ cond-false (holds a (entry_at t i)) (entry_with m a) (entry_at t i) (unheld_at t a i unheld))

  pub without_none : without t a ≡ t
  without_none = remarked_none Empty

  pub cleaned_none : cleaned t a ≡ t
  cleaned_none = remarked_none Clean

-- A proper table stays proper

pub empty_at : (n i : ℕ) → entry_at (empty_table n) i ≡ empty
empty_at n i =
    ⊎_elim (λ l. get_or-replicate n i empty empty l) (λ l. get_or_past (empty_table n) i empty (omega (arith, length-replicate n empty))) (cases_lt i n)

pub empty_proper : (n : ℕ) → ProperTable (empty_table n)
empty_proper n = record {
  entries = All-from_get_or ProperEntry (empty_table n) empty (λ i l. subst ProperEntry (sym (empty_at n i)) refl);
  distinct = λ i j a h k. absurd (both_ways false refl (sym (ap (holds a) (empty_at n i)) ∙ h));
}

with_proper : (m : Mark) (a : ℕ) → a < 4294967296 → ProperEntry (entry_with m a)
with_proper Empty a l = refl
with_proper Clean a l = l
with_proper Dirty a l = l

remarked_entry_proper : (m : Mark) (a : ℕ) (e : Entry) → ProperEntry e → ProperEntry (remarked_entry m a e)
remarked_entry_proper m a e p =
    cond_both (holds a e) (entry_with m a) e ProperEntry
    (λ h. let q = holds_parts a e h in with_proper m a (subst (λ n. n < 4294967296) q.1 (held_fits e.mark e.address.0 q.0 p)))
    (λ h. p)

module _ (t : Table) (proper : ProperTable t) where
  pub remarked_proper : (m : Mark) (a : ℕ) → ProperTable (remarked t m a)
  remarked_proper m a =
      let held_before : (i b : ℕ) → holds b (entry_at (remarked t m a) i) ≡ true → holds b (entry_at t i) ≡ true = λ i b h. remarked_holds m a b (entry_at t i) (ap (holds b) (sym (remarked_at t m a i)) ∙ h) in
      record {
        entries = All-from_get_or ProperEntry (remarked t m a) empty (λ i l. subst ProperEntry (sym (remarked_at t m a i)) (remarked_entry_proper m a (entry_at t i) (entry_proper t i proper)));
        distinct = λ i j b h k. proper.distinct i j b (held_before i b h) (held_before j b k);
      }

  pub without_proper : (a : ℕ) → ProperTable (without t a)
  without_proper a = remarked_proper Empty a

  pub cleaned_proper : (a : ℕ) → ProperTable (cleaned t a)
  cleaned_proper a = remarked_proper Clean a

  module _ (p : ℕ) (m : Mark) (a : ℕ) (inside : p < length t) (marked : has_mark m ≡ true) (small : a < 4294967296) where
    abbrev u : Table
    u = entered t p m a

    entered_entry : (i : ℕ) → ProperEntry (entry_at u i)
    entered_entry i =
        ⊎_elim
        (λ same. subst (λ k. ProperEntry (entry_at u k)) (sym same) (subst ProperEntry (sym (entered_here t p m a inside)) (marked_fits m a marked small)))
        (λ ne. subst ProperEntry (sym (entered_other t p m a i ne)) (remarked_entry_proper Empty a (entry_at t i) (entry_proper t i proper)))
        (cases_eq i p)

    -- a page that holds another address held it before
    entered_before : (i b : ℕ) → (a ≡ b → ⊥) → holds b (entry_at u i) ≡ true → holds b (entry_at t i) ≡ true
    entered_before i b ne h =
        ⊎_elim
        (λ same. absurd (ne (holds_parts b (entry m a) (ap (holds b) (sym (ap (entry_at u) same ∙ entered_here t p m a inside)) ∙ h)).1))
        (λ other. remarked_holds Empty a b (entry_at t i) (ap (holds b) (sym (entered_other t p m a i other)) ∙ h))
        (cases_eq i p)

    pub entered_proper : ProperTable u
    entered_proper = record {
      entries = All-from_get_or ProperEntry u empty (λ i l. entered_entry i);
      distinct = λ i j b h k.
          let only = entered_alone t p m a inside marked in
          ⊎_elim
          (λ same. only.alone i (subst (λ n. holds n (entry_at u i) ≡ true) (sym same) h) ∙ sym (only.alone j (subst (λ n. holds n (entry_at u j) ≡ true) (sym same) k)))
          (λ ne. proper.distinct i j b (entered_before i b ne h) (entered_before j b ne k))
          (cases_eq a b);
    }

-- Records

-- a change that was made passed its test
pub made_by : (b : Bool) (x u : Table) → cond b (Some x) None ≡ Some u → (b ≡ true) × (x ≡ u)
made_by true x u h = (refl, cc)
made_by false x u h = absurd (grind arith)

put_parts : (t : Table) (p : ℕ) (m : Mark) (a : ℕ) (u : Table) → put t p m a ≡ Some u → (p < length t) × (entered t p m a ≡ u)
put_parts t p m a u h =
    let q = made_by (ltb p (length t) && not (marked_at t p)) (entered t p m a) u h in
    (ltb-true p (length t) (and_parts (ltb p (length t)) (not (marked_at t p)) q.0).0, q.1)

put_keeps : (t : Table) (p : ℕ) (m : Mark) (a : ℕ) (u : Table) → ProperTable t → has_mark m ≡ true → a < 4294967296 → put t p m a ≡ Some u → ProperTable u × (length u ≡ length t)
put_keeps t p m a u proper marked small h =
    let q = put_parts t p m a u h in
    (subst ProperTable q.1 (entered_proper t proper p m a q.0 marked small), ap length (sym q.1) ∙ length_entered t p m a)

-- a record leaves a proper table, as long as it was
pub apply_keeps : (t : Table) (r : Record) (u : Table) → ProperTable t → ProperRecord r → apply t r ≡ Some u → ProperTable u × (length u ≡ length t)
apply_keeps t (PutClean p a) u proper small h = put_keeps t p.0 Clean a.0 u proper refl small.1 h
apply_keeps t (PutDirty p a) u proper small h = put_keeps t p.0 Dirty a.0 u proper refl small.1 h
apply_keeps t (Drop a) u proper small h =
    let q = made_by (held t a.0) (without t a.0) u h in
    (subst ProperTable q.1 (without_proper t proper a.0), ap length (sym q.1) ∙ length_without t a.0)
apply_keeps t (MarkClean a) u proper small h =
    let q = made_by (held t a.0) (cleaned t a.0) u h in
    (subst ProperTable q.1 (cleaned_proper t proper a.0), ap length (sym q.1) ∙ length_cleaned t a.0)

next_keeps : (o : Option Table) (r : Record) (n : ℕ) → ((t : Table) → o ≡ Some t → ProperTable t × (length t ≡ n)) → ProperRecord r → (u : Table) → next_table o r ≡ Some u → ProperTable u × (length u ≡ n)
next_keeps None r n from small u h = absurd (grind arith)
next_keeps (Some t) r n from small u h =
    let q = from t refl in let k = apply_keeps t r u q.0 small h in (k.0, k.1 ∙ q.1)

-- and so do records one after another
pub replayed_keeps : (o : Option Table) (rs : List Record) (n : ℕ) → ((t : Table) → o ≡ Some t → ProperTable t × (length t ≡ n)) → AllByRecursion ProperRecord rs → (u : Table) → replayed o rs ≡ Some u → ProperTable u × (length u ≡ n)
replayed_keeps o [] n from small u h = from u h
replayed_keeps o (r ∷ rs) n from small u h = replayed_keeps (next_table o r) rs n (next_keeps o r n from small.0) small.1 u h

pub replayed_append : (o : Option Table) (rs ss : List Record) → replayed o (rs ++ ss) ≡ replayed (replayed o rs) ss
replayed_append o [] ss = refl
replayed_append o (r ∷ rs) ss = replayed_append (next_table o r) rs ss

-- after a breach nothing follows
pub replayed_breach : (rs : List Record) → replayed None rs ≡ None
replayed_breach [] = refl
replayed_breach (r ∷ rs) = replayed_breach rs

-- The answers of the calls that change the table

-- a mark given to the page that holds the address, or a refusal where none does
pub turns_remarked : (t u : Table) (m : Mark) (a : ℕ) (r : Result (Unit {0}) Breach) → is_ok r ≡ held t a → u ≡ remarked t m a → Turns t (cond (held t a) (Some (remarked t m a)) None) r u
turns_remarked t u m a (Ok x) was after = cond-true (held t a) (Some (remarked t m a)) None (sym was) ∙ ap Some (sym after)
turns_remarked t u m a (Err x) was after =
    (cond-false (held t a) (Some (remarked t m a)) None (sym was), after ∙ remarked_none t a (sym was) m)

-- what a page that may enter an address is
pub enterable : (t : Table) (p : ℕ) (m : Mark) → may_enter t p m ≡ true → (has_mark m ≡ true) × (p < length t)
enterable t p m h =
    let q = and_parts (has_mark m) (ltb p (length t) && not (marked_at t p)) h in
    (q.0, ltb-true p (length t) (and_parts (ltb p (length t)) (not (marked_at t p)) q.1).0)

-- a drop, and a mark of clean
pub turns_drop : (t u : Table) (a : ℕ) (r : Result (Unit {0}) Breach) → is_ok r ≡ held t a → u ≡ without t a → Turns t (cond (held t a) (Some (without t a)) None) r u
turns_drop t u a (Ok x) was after = cond-true (held t a) (Some (without t a)) None (sym was) ∙ ap Some (sym after)
turns_drop t u a (Err x) was after = (cond-false (held t a) (Some (without t a)) None (sym was), after ∙ without_none t a (sym was))

pub turns_clean : (t u : Table) (a : ℕ) (r : Result (Unit {0}) Breach) → is_ok r ≡ held t a → u ≡ cleaned t a → Turns t (cond (held t a) (Some (cleaned t a)) None) r u
turns_clean t u a (Ok x) was after = cond-true (held t a) (Some (cleaned t a)) None (sym was) ∙ ap Some (sym after)
turns_clean t u a (Err x) was after = (cond-false (held t a) (Some (cleaned t a)) None (sym was), after ∙ cleaned_none t a (sym was))
