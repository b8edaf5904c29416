-- The marks of a stretch of addresses, written entry by entry.
use Rattle.std.proofs.Common.{◌≡◌, ℕ, ◌+◌, ◌-◌, ◌<◌, ◌≤◌, true, false, cond, ◌||◌, eqb, ◌≢◌, List, [], ◌∷◌, ◌++◌, length, get_or, take, set, sym, refl, ap, ◌∙◌, ⊎_elim, arith}
use Rattle.std.proofs.lemmas.List.FromFn.{fill_by_all}
use Rattle.std.proofs.lemmas.List.{get_or-set_same, get_or-set_other, get_or-take, length-take-le, take_all, take_more}
use Rattle.std.proofs.lemmas.Bool.{and_right, ne_eqb, both_ways, false_from_ne_true, cases_Bool, cases_eq, cond-true, cond-false, or_left}
use Rattle.layout.specs.declared.entries.Entry.{Entry}
use Rattle.layout.specs.Entries.{mark_number}
use Rattle.table.specs.Tables.{Table, empty, has_mark, entry_at, holds, held, mark_of, ProperTable}
use Rattle.table.specs.Views.{marks_from}
use Rattle.table.proofs.Tablewise.{holds_from, unheld_from}

-- one mark written, at the place of its address
pub mark_written : (out : List ℕ) (first : ℕ) (e : Entry) (v : ℕ) → has_mark e.mark ≡ true → first ≤ e.address.0 → e.address.0 - first < length out → v ≡ mark_number e.mark → (k : ℕ) → k < length out → get_or (set out (e.address.0 - first) v) k 0 ≡ cond (holds (first + k) e) (mark_number e.mark) (get_or out k 0)
mark_written out first e v marked le inside is k l =
    ⊎_elim
    (λ same.
    ap (λ n. get_or (set out (e.address.0 - first) v) n 0) same
    ∙ get_or-set_same out (e.address.0 - first) v 0 inside
    ∙ is
    ∙ sym (cond-true (holds (first + k) e) (mark_number e.mark) (get_or out k 0) (holds_from (first + k) e marked (omega arith))))
    (λ ne.
    let other : e.address.0 ≢ first + k = λ q. ne (omega arith) in
    get_or-set_other out (e.address.0 - first) k v 0 ne
    ∙ sym (cond-false (holds (first + k) e) (mark_number e.mark) (get_or out k 0) (and_right (has_mark e.mark) (eqb e.address.0 (first + k)) (ne_eqb e.address.0 (first + k) other))))
    (cases_eq k (e.address.0 - first))

-- one entry more, of an address that none before it holds
mark_push : (t : Table) (e : Entry) (a : ℕ) → (holds a e ≡ true → held t a ≡ false) → mark_of (t ++ e ∷ []) a ≡ cond (holds a e) e.mark (mark_of t a)
mark_push [] e a new = refl
mark_push (x ∷ xs) e a new =
    ⊎_elim
    (λ y.
    let old : holds a e ≡ false = false_from_ne_true (holds a e) (λ z. both_ways (held (x ∷ xs) a) (new z) (or_left (holds a x) (held xs a) y)) in
    cond-true (holds a x) x.mark (mark_of (xs ++ e ∷ []) a) y
    ∙ sym (cond-false (holds a e) e.mark (mark_of (x ∷ xs) a) old ∙ cond-true (holds a x) x.mark (mark_of xs a) y))
    (λ n.
    let less : holds a e ≡ true → held xs a ≡ false = λ z. sym (ap (λ b. b || held xs a) n) ∙ new z in
    cond-false (holds a x) x.mark (mark_of (xs ++ e ∷ []) a) n
    ∙ mark_push xs e a less
    ∙ ap (λ r. cond (holds a e) e.mark r) (sym (cond-false (holds a x) x.mark (mark_of xs a) n)))
    (cases_Bool (holds a x))

module _ (t : Table) (proper : ProperTable t) (i : ℕ) (l : i < length t) where
  new_there : (a : ℕ) → holds a (entry_at t i) ≡ true → held (take i t) a ≡ false
  new_there a h =
      unheld_from (take i t) a
      (λ k lt.
      let below : k < i = omega (arith, length-take-le i t (omega arith)) in
      false_from_ne_true (holds a (entry_at (take i t) k))
      (λ y. omega (arith, proper.distinct k i a (ap (holds a) (sym (get_or-take i t k empty below)) ∙ y) h)))

  mark_more : (a : ℕ) → mark_of (take (i + 1) t) a ≡ cond (holds a (entry_at t i)) (entry_at t i).mark (mark_of (take i t) a)
  mark_more a = ap (λ u. mark_of u a) (take_more t i empty l) ∙ mark_push (take i t) (entry_at t i) a (new_there a)

  -- the marks of the first entries, and then those of one more
  pub marks_more : (out after : List ℕ) (first : ℕ) → ((k : ℕ) → k < length out → get_or out k 0 ≡ mark_number (mark_of (take i t) (first + k))) → ((k : ℕ) → k < length out → get_or after k 0 ≡ cond (holds (first + k) (entry_at t i)) (mark_number (entry_at t i).mark) (get_or out k 0)) → (k : ℕ) → k < length out → get_or after k 0 ≡ mark_number (mark_of (take (i + 1) t) (first + k))
  marks_more out after first before write k lt =
      write k lt
      ∙ ⊎_elim
      (λ y. cond-true (holds (first + k) (entry_at t i)) (mark_number (entry_at t i).mark) (get_or out k 0) y ∙ ap mark_number (sym (mark_more (first + k) ∙ cond-true (holds (first + k) (entry_at t i)) (entry_at t i).mark (mark_of (take i t) (first + k)) y)))
      (λ n. cond-false (holds (first + k) (entry_at t i)) (mark_number (entry_at t i).mark) (get_or out k 0) n ∙ before k lt ∙ ap mark_number (sym (mark_more (first + k) ∙ cond-false (holds (first + k) (entry_at t i)) (entry_at t i).mark (mark_of (take i t) (first + k)) n)))
      (cases_Bool (holds (first + k) (entry_at t i)))

pub marks_all : (t : Table) (i : ℕ) (out : List ℕ) (first n : ℕ) → length t ≤ i → length out ≡ n → ((k : ℕ) → k < length out → get_or out k 0 ≡ mark_number (mark_of (take i t) (first + k))) → out ≡ marks_from t first n
marks_all t i out first n all len each =
    fill_by_all (λ k. mark_number (mark_of t (first + k))) out n 0 len (λ k l. each k (omega arith) ∙ ap (λ u. mark_number (mark_of u (first + k))) (take_all i t all))
