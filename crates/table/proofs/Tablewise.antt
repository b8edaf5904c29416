-- Laws of the table: what each change makes of an entry, who holds an address then, and that a proper table stays proper.
use Rattle.std.proofs.Common.{◌≡◌, ℕ, zero, suc, ◌<◌, true, false, eqb, [], ◌∷◌, length, sym, refl, ap, ◌∙◌, subst, ⊎_elim, arith}
use Rattle.std.proofs.ByRecursion.{All-get_or, All-from_get_or}
use Rattle.std.proofs.lemmas.List.{get_or_past}
use Rattle.std.proofs.lemmas.Bool.{and_parts, and_from, or_cases, or_parts, or_left, or_right, eqb-true, eq-eqb, ltb-true, lt-ltb, both_ways, false_from_ne_true, cases_Bool, cases_lt, cond-true, cond-false}
use Rattle.layout.specs.declared.entries.Entry.{Entry}
use Rattle.layout.specs.declared.entries.Mark.{Mark}
use Rattle.layout.specs.declared.entries.Mark.TheVariants.{Empty, Clean, Dirty}
use Rattle.layout.specs.Entries.{AddressFits, ProperEntry}
use Rattle.table.specs.Tables.{Table, entry, empty, has_mark, entry_at, holds, held, mark_of, ProperTable, address_fits, AllFit, AllDistinct}

-- An entry that holds an address

pub holds_parts : (a : ℕ) (e : Entry) → holds a e ≡ true → (has_mark e.mark ≡ true) × (e.address.0 ≡ a)
holds_parts a e h = let p = and_parts (has_mark e.mark) (eqb e.address.0 a) h in (p.0, eqb-true e.address.0 a p.1)

pub holds_from : (a : ℕ) (e : Entry) → has_mark e.mark ≡ true → e.address.0 ≡ a → holds a e ≡ true
holds_from a e m s = and_from (has_mark e.mark) (eqb e.address.0 a) m (eq-eqb e.address.0 a s)

-- it holds no other
pub holds_one : (a b : ℕ) (e : Entry) → holds a e ≡ true → holds b e ≡ true → a ≡ b
holds_one a b e h k = sym (holds_parts a e h).1 ∙ (holds_parts b e k).1

-- Pages, and whether an address is held

pub held_at : (t : Table) (a i : ℕ) → holds a (entry_at t i) ≡ true → held t a ≡ true
held_at [] a i h = h
held_at (e ∷ es) a zero h = or_left (holds a e) (held es a) h
held_at (e ∷ es) a (suc i) h = or_right (holds a e) (held es a) (held_at es a i h)

pub unheld_at : (t : Table) (a i : ℕ) → held t a ≡ false → holds a (entry_at t i) ≡ false
unheld_at t a i h = false_from_ne_true (holds a (entry_at t i)) (λ y. both_ways (held t a) h (held_at t a i y))

pub held_page : (t : Table) (a : ℕ) → held t a ≡ true → (i : ℕ) × (i < length t) × (holds a (entry_at t i) ≡ true)
held_page [] a h = absurd (both_ways true (sym h) refl)
held_page (e ∷ es) a h =
    ⊎_elim
    (λ y. (0, omega arith, y))
    (λ y. let r = held_page es a y in (suc r.0, omega (arith, r.1), r.2))
    (or_cases (holds a e) (held es a) h)

pub unheld_from : (t : Table) (a : ℕ) → ((i : ℕ) → i < length t → holds a (entry_at t i) ≡ false) → held t a ≡ false
unheld_from t a none =
    false_from_ne_true (held t a) (λ y. let r = held_page t a y in both_ways (holds a (entry_at t r.0)) (none r.0 r.1) r.2)

-- a page that holds an address is in the table
pub holds_inside : (t : Table) (a i : ℕ) → holds a (entry_at t i) ≡ true → i < length t
holds_inside t a i h =
    ⊎_elim
    (λ l. l)
    (λ l. absurd (both_ways (holds a (entry_at t i)) (ap (holds a) (get_or_past t i empty l)) h))
    (cases_lt i (length t))

pub mark_unheld : (t : Table) (a : ℕ) → held t a ≡ false → mark_of t a ≡ Empty
mark_unheld [] a h = refl
mark_unheld (e ∷ es) a h =
    let p = or_parts (holds a e) (held es a) h in cond-false (holds a e) e.mark (mark_of es a) p.0 ∙ mark_unheld es a p.1

-- the mark of an address is that of the one page that holds it
pub mark_at : (t : Table) (a p : ℕ) → holds a (entry_at t p) ≡ true → ((j : ℕ) → holds a (entry_at t j) ≡ true → j ≡ p) → mark_of t a ≡ (entry_at t p).mark
mark_at [] a p h alone = absurd (both_ways true (sym h) refl)
mark_at (e ∷ es) a zero h alone = cond-true (holds a e) e.mark (mark_of es a) h
mark_at (e ∷ es) a (suc p) h alone =
    ⊎_elim
    (λ y. absurd (omega (arith, alone 0 y)))
    (λ n. cond-false (holds a e) e.mark (mark_of es a) n ∙ mark_at es a p h (λ j k. let q = alone (suc j) k in omega arith))
    (cases_Bool (holds a e))

-- Proper tables, as types keep them

fits_from : (m : Mark) (a : ℕ) → AddressFits m a → address_fits (entry m a) ≡ true
fits_from Empty a h = eq-eqb a 0 h
fits_from Clean a h = lt-ltb a 4294967296 h
fits_from Dirty a h = lt-ltb a 4294967296 h

fits_proper : (m : Mark) (a : ℕ) → address_fits (entry m a) ≡ true → AddressFits m a
fits_proper Empty a h = eqb-true a 0 h
fits_proper Clean a h = ltb-true a 4294967296 h
fits_proper Dirty a h = ltb-true a 4294967296 h

-- an address that is held is a disk address
pub held_fits : (m : Mark) (a : ℕ) → has_mark m ≡ true → AddressFits m a → a < 4294967296
held_fits Empty a h k = absurd (both_ways true (sym h) refl)
held_fits Clean a h k = k
held_fits Dirty a h k = k

pub marked_fits : (m : Mark) (a : ℕ) → has_mark m ≡ true → a < 4294967296 → AddressFits m a
marked_fits Empty a h k = absurd (both_ways true (sym h) refl)
marked_fits Clean a h k = k
marked_fits Dirty a h k = k

-- every entry is proper, past the table too
pub entry_proper : (t : Table) (i : ℕ) → ProperTable t → ProperEntry (entry_at t i)
entry_proper t i p =
    ⊎_elim
    (λ l. All-get_or ProperEntry t i empty l p.entries)
    (λ l. subst ProperEntry (sym (get_or_past t i empty l)) refl)
    (cases_lt i (length t))

pub proper_from : (t : Table) → AllFit t → AllDistinct t → ProperTable t
proper_from t fit distinct = record {
  entries = All-from_get_or ProperEntry t empty (λ i l. fits_proper (entry_at t i).mark (entry_at t i).address.0 (fit i));
  distinct = λ i j a h k.
      let p = holds_parts a (entry_at t i) h in
      let q = holds_parts a (entry_at t j) k in
      distinct i j
      (and_from (has_mark (entry_at t i).mark) (holds (entry_at t i).address.0 (entry_at t j)) p.0 (holds_from (entry_at t i).address.0 (entry_at t j) q.0 (q.1 ∙ sym p.1)));
}

pub fit_from : (t : Table) → ProperTable t → AllFit t
fit_from t p i = fits_from (entry_at t i).mark (entry_at t i).address.0 (entry_proper t i p)

pub distinct_from : (t : Table) → ProperTable t → AllDistinct t
distinct_from t p i j h =
    let q = and_parts (has_mark (entry_at t i).mark) (holds (entry_at t i).address.0 (entry_at t j)) h in
    p.distinct i j (entry_at t i).address.0 (holds_from (entry_at t i).address.0 (entry_at t i) q.0 refl) q.1

-- a list that is a proper table keeps what the type asks
pub kept : (t u : Table) → t ≡ u → ProperTable u → AllFit t × AllDistinct t
kept t u e p = (subst AllFit (sym e) (fit_from u p), subst AllDistinct (sym e) (distinct_from u p))
