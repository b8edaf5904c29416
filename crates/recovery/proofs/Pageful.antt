-- The entry pages of a checkpoint, read one after another: what a further page adds, and why one that does not fit stops the reading.
use Rattle.std.proofs.Common.{◌≡◌, ℕ, suc, ◌+◌, ◌-◌, ◌*◌, ◌<◌, ◌≤◌, min, true, ◌⊎◌, List, ◌++◌, length, take, drop, Ok, Err, MatchResult, Result, sym, refl, ap, ◌∙◌, subst, ap₂, inl, inr, ⊎_elim, add-one, arith, take-add}
use mathlib.Core.Path.{fun_ext}
use Rattle.std.proofs.ByRecursion.{All-take, All-drop, All-append}
use Rattle.std.proofs.lemmas.List.{length-take, length-drop, get_or-take, get_or_past, drop-take, take-take}
use Rattle.std.proofs.lemmas.Bool.{cases_eq, cases_lt, true≢false}
use Rattle.std.specs.List.{AllByRecursion}
use Rattle.device.specs.declared.faults.Fault.{Fault}
use Rattle.device.specs.declared.faults.Refusal.TheVariants.{Breach}
use Rattle.device.specs.Chips.{Note, State, Pages}
use Rattle.device.specs.Chips.State.{held}
use Rattle.layout.specs.declared.areas.Area.{Area}
use Rattle.layout.specs.Entries.{entry_bytes, ProperEntry}
use Rattle.layout.specs.Geometry.{entry_pages, entry_page_at}
use Rattle.layout.specs.Pages.{entry_part, entry_note, entry_data, EntriesRead}
use Rattle.layout.proofs.Cellwise.{same_cells}
use Rattle.layout.specs.Apart.{same_entry}
use Rattle.layout.proofs.Partwise.{same_front}
use Rattle.table.specs.Tables.{Table, empty, entry_at, holds}
use Rattle.recovery.specs.declared.misfit.Misfit.{Misfit}
use Rattle.recovery.specs.Recovering.{cache_fault, DistinctBelow, Entered}
use Rattle.recovery.specs.Entering.{Taken, EntriesFail}
use Rattle.recovery.specs.Looking.{shown, Quiet, Lost}
use Rattle.recovery.proofs.Lookwise.{quiet_none, quiet_then, quiet_shown}
use Rattle.layout.specs.declared.notes.Malformed.{Malformed}

held_note : (m n : Note) (xs ys : List ℕ) → held m xs ≡ held n ys → m ≡ n
held_note m n xs ys e = cc

held_bytes : (m n : Note) (xs ys : List ℕ) → held m xs ≡ held n ys → xs ≡ ys
held_bytes m n xs ys e = cc

-- a part lies in the front that holds it
part_in_front : (t : Table) (i n : ℕ) → 64 * i + 64 ≤ n → entry_part t i ≡ drop (64 * i) (take (64 * i + 64) (take n t))
part_in_front t i n l = sym (drop-take (64 * i) 64 t) ∙ ap (drop (64 * i)) (sym (take-take (64 * i + 64) n t l))

part_front : (t u : Table) (i n : ℕ) → 64 * i + 64 ≤ n → take n u ≡ take n t → entry_part u i ≡ entry_part t i
part_front t u i n l e = part_in_front u i n l ∙ ap (λ z. drop (64 * i) (take (64 * i + 64) z)) e ∙ sym (part_in_front t i n l)

all_part : (t : Table) (i n : ℕ) → 64 * i + 64 ≤ n → AllByRecursion ProperEntry (take n t) → AllByRecursion ProperEntry (entry_part t i)
all_part t i n l h =
    subst (AllByRecursion ProperEntry) (sym (part_in_front t i n l)) (All-drop ProperEntry (64 * i) (take (64 * i + 64) (take n t)) (All-take ProperEntry (64 * i + 64) (take n t) h))

-- parts of tables as long as each other, with the same page
same_part : (t u : Table) (j : ℕ) → length t ≡ length u → AllByRecursion ProperEntry (entry_part t j) → AllByRecursion ProperEntry (entry_part u j) → entry_data t j ≡ entry_data u j
    → entry_part t j ≡ entry_part u j
same_part t u j l p q e =
    let same : length (entry_part t j) ≡ length (entry_part u j) =
    length-take 64 (drop (64 * j) t) ∙ ap (min 64) (length-drop (64 * j) t ∙ ap (λ n. n - 64 * j) l ∙ sym (length-drop (64 * j) u)) ∙ sym (length-take 64 (drop (64 * j) u)) in
    same_cells entry_bytes (λ x. refl) ProperEntry same_entry (entry_part t j) (entry_part u j) same p q e

front_more : (t u : Table) (j : ℕ) → take (64 * j) t ≡ take (64 * j) u → entry_part t j ≡ entry_part u j → take (64 * j + 64) t ≡ take (64 * j + 64) u
front_more t u j e p = take-add (64 * j) 64 t ∙ ap₂ ◌++◌ e p ∙ sym (take-add (64 * j) 64 u)

entry_in_front : (t : Table) (n i : ℕ) → i < n → entry_at (take n t) i ≡ entry_at t i
entry_in_front t n i l = get_or-take n t i empty l

-- whether addresses are held once hangs on the front alone
distinct_front : (t u : Table) (n : ℕ) → take n t ≡ take n u → DistinctBelow t n → DistinctBelow u n
distinct_front t u n e h i k a li lk hi hk = h i k a li lk (move i li hi) (move k lk hk)
  where
    move : (q : ℕ) → q < n → holds a (entry_at u q) ≡ true → holds a (entry_at t q) ≡ true
    move q l x = subst (λ z. holds a z ≡ true) (sym (entry_in_front u n q l) ∙ ap (λ z. entry_at z q) (sym e) ∙ entry_in_front t n q l) x

-- a front that is a list of its own, cut where the table ends
module _ (u : Table) (n end : ℕ) (is : end ≡ min (length u) n) where
  inside : (a i : ℕ) → i < n → holds a (entry_at u i) ≡ true → i < length (take end u)
  inside a i l h = ⊎_elim
      (λ (x : i < length u). omega (arith, length-take end u))
      (λ (x : length u ≤ i). absurd (true≢false (sym h ∙ ap (holds a) (get_or_past u i empty x))))
      (cases_lt i (length u))

  pub distinct_cut : DistinctBelow (take end u) (length (take end u)) → DistinctBelow u n
  distinct_cut h i k a li lk hi hk = h i k a (inside a i li hi) (inside a k lk hk) (move i li hi) (move k lk hk)
    where
      move : (q : ℕ) → q < n → holds a (entry_at u q) ≡ true → holds a (entry_at (take end u) q) ≡ true
      move q l x = subst (λ z. holds a z ≡ true) (sym (entry_in_front u end q (omega (arith, inside a q l x, length-take end u)))) x

  pub distinct_uncut : DistinctBelow u n → DistinctBelow (take end u) (length (take end u))
  distinct_uncut h i k a li lk hi hk = h i k a (omega (arith, length-take end u)) (omega (arith, length-take end u)) (move i li hi) (move k lk hk)
    where
      move : (q : ℕ) → q < length (take end u) → holds a (entry_at (take end u) q) ≡ true → holds a (entry_at u q) ≡ true
      move q l x = subst (λ z. holds a z ≡ true) (entry_in_front u end q (omega (arith, length-take end u))) x

-- a page that was read
pub taken_read : (page : State) (note : Note) (bytes : List ℕ) (j : ℕ) (t u : Table) (end : ℕ) → page ≡ held note bytes → length u ≡ length t
    → end ≡ min (length u) (64 * j + 64) → EntriesRead note bytes j t (Ok tt) u → DistinctBelow (take end u) (length (take end u)) → Taken page j t (Ok tt) u
taken_read page note bytes j t u end e len is (a, b, c, d, _) once = (e ∙ ap₂ held a b, c, d, len, distinct_cut u (64 * j + 64) end is once)

-- a page that brought an address a second time
pub taken_twice : {x : Misfit} (page : State) (note : Note) (bytes : List ℕ) (j : ℕ) (t u : Table) (end : ℕ) → page ≡ held note bytes → length u ≡ length t
    → end ≡ min (length u) (64 * j + 64) → EntriesRead note bytes j t (Ok tt) u → (DistinctBelow (take end u) (length (take end u)) → ⊥) → Taken page j t (Err x) u
taken_twice page note bytes j t u end e len is (a, b, c, d, _) twice = λ v lv front pv cv dv.
    let same_page : entry_data v j ≡ entry_data u j = sym (held_bytes note (entry_note j) bytes (entry_data v j) (sym e ∙ pv)) ∙ b in
    let part : entry_part v j ≡ entry_part u j = same_part v u j (lv ∙ sym len) cv c same_page in
    let whole : take (64 * j + 64) v ≡ take (64 * j + 64) u = front_more v u j (front ∙ sym d) part in
    twice (distinct_uncut u (64 * j + 64) end is (distinct_front v u (64 * j + 64) whole dv))

-- One page more.
module _ (D : ℕ) (s : ℕ → State) (area : Area) (j : ℕ) (t : Table) (h : Entered D s area j t) where
  pub entered_more : (u : Table) → Taken (s (entry_page_at area j)) j t (Ok tt) u → Entered D s area (suc j) u
  entered_more u (page, proper, front, len, distinct) = record {
    long = len ∙ h.long;
    pages = λ i l. ⊎_elim
        (λ (e : i ≡ j). rw e page)
        (λ (ne : i ≡ j → ⊥). h.pages i (omega arith)
        ∙ ap (λ z. held (entry_note i) (Rattle.layout.specs.Pages.cells_page entry_bytes z)) (sym (part_front t u i (64 * j) (omega arith) front)))
        (cases_eq i j);
    proper = subst (λ n. AllByRecursion ProperEntry (take n u)) next
        (subst (AllByRecursion ProperEntry) (sym (take-add (64 * j) 64 u)) (All-append ProperEntry (take (64 * j) u) (entry_part u j) (subst (AllByRecursion ProperEntry) (sym front) h.proper) proper));
    distinct = subst (DistinctBelow u) next distinct;
  }
    where
      next : 64 * j + 64 ≡ 64 * suc j
      next = omega arith

  front_of : (u : Table) → Entered D s area (suc j) u → take (64 * j) u ≡ take (64 * j) t
  front_of u k = same_front u t j (λ i l.
      same_part u t i (k.long ∙ sym h.long) (all_part u i (64 * suc j) (omega arith) k.proper) (all_part t i (64 * j) (omega arith) h.proper)
      (held_bytes (entry_note i) (entry_note i) (entry_data u i) (entry_data t i) (sym (k.pages i (omega arith)) ∙ h.pages i l)))

  pub entered_stuck : {x : Misfit} (u v : Table) → Taken (s (entry_page_at area j)) j t (Err x) u → Entered D s area (suc j) v → ⊥
  entered_stuck u v none k =
      none v (k.long ∙ sym h.long) (front_of v k) (k.pages j (omega arith)) (all_part v j (64 * suc j) (omega arith) k.proper)
      (subst (DistinctBelow v) next k.distinct)
    where
      next : 64 * suc j ≡ 64 * j + 64
      next = omega arith

  -- what was taken of a page, by what is entered then
  pub page_entered : (u : Table) (r : Result (Unit {0}) Misfit) → Taken (s (entry_page_at area j)) j t r u
      → MatchResult r (λ _. Entered D s area (suc j) u) (λ _. (v : Table) → Entered D s area (suc j) v → ⊥)
  page_entered u (Ok x) h = entered_more u h
  page_entered u (Err x) h = λ v. entered_stuck u v h

-- What holds while the pages are read: m is the chip as the reading began, n as it is now.
pub record Reading (D : ℕ) (area : Area) (m n : Pages) (j : ℕ) (t : Table) : Type 0 where
  pub quiet : Quiet m n
  pub sofar : Entered D (shown m) area j t
  pub lit : 0 < j → n.on ≡ true

pub reading_none : (D : ℕ) (area : Area) (m : Pages) (t : Table) → length t ≡ D → Reading D area m m 0 t
reading_none D area m t long = record {
  quiet = quiet_none m m refl;
  sofar = record { long = long; pages = λ i l. absurd (omega arith); proper = tt; distinct = λ i k a l _ _ _. absurd (omega arith) };
  lit = λ l. absurd (omega arith);
}

module _ (D : ℕ) (area : Area) (m n k : Pages) (j : ℕ) (t : Table) (inv : Reading D area m n j t) where
  same_shown : shown n ≡ shown m
  same_shown = fun_ext (quiet_shown m n inv.quiet)

  pub reading_sofar : Entered D (shown n) area j t
  reading_sofar = subst (λ s. Entered D s area j t) (sym same_shown) inv.sofar

  pub reading_more : (u : Table) → Quiet n k → k.on ≡ true → Entered D (shown n) area (suc j) u → Reading D area m k (j + 1) u
  reading_more u quiet on h = record {
    quiet = quiet_then m n k inv.quiet quiet;
    sofar = rw add-one (subst (λ s. Entered D s area (suc j) u) same_shown h);
    lit = λ _. on;
  }

  pub reading_fails : (f : Fault) → j < entry_pages D
      → Lost f k ⊎ ((k.on ≡ true) × ((f ≡ cache_fault (entry_page_at area j) Breach) × ((u : Table) → Entered D (shown n) area (suc j) u → ⊥)))
      → Lost f k ⊎ ((k.on ≡ true) × EntriesFail D (shown m) area f)
  reading_fails f few (inl x) = inl x
  reading_fails f few (inr (on, (e, stuck))) =
      inr (on, (j, t, e, few, inv.sofar, λ u h. stuck u (subst (λ s. Entered D s area (suc j) u) (sym same_shown) h)))

-- a page that is no entry page
pub not_read : {x : Malformed} {y : Misfit} (page : State) (note : Note) (bytes : List ℕ) (j : ℕ) (t u : Table) → page ≡ held note bytes → EntriesRead note bytes j t (Err x) u
    → Taken page j t (Err y) u
not_read page note bytes j t u e (_, none) v lv front pv cv dv =
    none v lv cv (held_note note (entry_note j) bytes (entry_data v j) (sym e ∙ pv)) (held_bytes note (entry_note j) bytes (entry_data v j) (sym e ∙ pv))
