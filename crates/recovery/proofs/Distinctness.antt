-- Addresses that are held, and held once, in a list of entries.
use Rattle.std.proofs.Common.{◌≡◌, ℕ, zero, suc, ◌+◌, ◌<◌, true, false, eqb, ◌⊎◌, [], ◌∷◌, length, take, sym, refl, ap, ◌∙◌, subst, inl, inr, ⊎_elim, arith}
use Rattle.std.proofs.lemmas.List.{get_or-take}
use Rattle.std.proofs.lemmas.Bool.{eq-eqb, eqb-true, and_parts, and_from, or_cases, or_parts, true≢false, cases_eq}
use Rattle.layout.specs.declared.entries.Entry.{Entry}
use Rattle.table.specs.Tables.{Table, empty, entry_at, has_mark, holds, held}
use Rattle.recovery.specs.Recovering.{DistinctBelow}
use Rattle.std.proofs.Common.{◌≤◌, Bool, ◌&&◌, ◌||◌, drop}
use Rattle.std.proofs.lemmas.List.{at_drop_more, drop_all}
use Rattle.std.proofs.lemmas.Bool.{or_left}

-- an address that is held is held by some entry
pub held_at : (t : Table) (a : ℕ) → held t a ≡ true → (i : ℕ) × (i < length t) × (holds a (entry_at t i) ≡ true)
held_at [] a h = absurd (true≢false (sym h))
held_at (e ∷ es) a h = go (or_cases (holds a e) (held es a) h) (held_at es a)
  where
    go : (holds a e ≡ true) ⊎ (held es a ≡ true) → (held es a ≡ true → (i : ℕ) × (i < length es) × (holds a (entry_at es i) ≡ true))
        → (i : ℕ) × (i < length (e ∷ es)) × (holds a (entry_at (e ∷ es) i) ≡ true)
    go (inl x) more = (0, omega arith, x)
    go (inr x) more = let (i, l, y) = more x in (suc i, omega arith, y)

-- one that is not is held by none
pub held_none : (t : Table) (a : ℕ) → held t a ≡ false → (i : ℕ) → holds a (entry_at t i) ≡ false
held_none [] a h i = refl
held_none (e ∷ es) a h zero = (or_parts (holds a e) (held es a) h).0
held_none (e ∷ es) a h (suc i) = held_none es a (or_parts (holds a e) (held es a) h).1 i

entry_front : (t : Table) (j i : ℕ) → i < j → entry_at (take j t) i ≡ entry_at t i
entry_front t j i l = get_or-take j t i empty l

holds_address : (a : ℕ) (e : Entry) → holds a e ≡ true → (has_mark e.mark ≡ true) × (e.address.0 ≡ a)
holds_address a e h = let (x, y) = and_parts (has_mark e.mark) (eqb e.address.0 a) h in (x, eqb-true e.address.0 a y)

-- one entry more that clashes with none before it
pub distinct_more : (t : Table) (j : ℕ) → (has_mark (entry_at t j).mark ≡ true → held (take j t) (entry_at t j).address.0 ≡ false) → DistinctBelow t j → DistinctBelow t (j + 1)
distinct_more t j free inv i k a li lk hi hk =
    ⊎_elim
    (λ (ei : i ≡ j). ⊎_elim
    (λ (ek : k ≡ j). ei ∙ sym ek)
    (λ (nk : k ≡ j → ⊥). absurd (clash k (omega arith) (subst (λ z. holds a (entry_at t z) ≡ true) ei hi) hk))
    (cases_eq k j))
    (λ (ni : i ≡ j → ⊥). ⊎_elim
    (λ (ek : k ≡ j). absurd (clash i (omega arith) (subst (λ z. holds a (entry_at t z) ≡ true) ek hk) hi))
    (λ (nk : k ≡ j → ⊥). inv i k a (omega arith) (omega arith) hi hk)
    (cases_eq k j))
    (cases_eq i j)
  where
    clash : (q : ℕ) → q < j → holds a (entry_at t j) ≡ true → holds a (entry_at t q) ≡ true → ⊥
    clash q l hj hq =
        let (m, e) = holds_address a (entry_at t j) hj in
        let none : held (take j t) a ≡ false = subst (λ z. held (take j t) z ≡ false) e (free m) in
        true≢false (sym hq ∙ ap (holds a) (sym (entry_front t j q l)) ∙ held_none (take j t) a none q)

-- an entry that clashes with one before it
pub not_distinct : (t : Table) (j : ℕ) → j < length t → has_mark (entry_at t j).mark ≡ true → held (take j t) (entry_at t j).address.0 ≡ true → DistinctBelow t (length t) → ⊥
not_distinct t j l m x inv =
    let (i, li, hi) = held_at (take j t) (entry_at t j).address.0 x in
    let below : i < j = short i li in
    let e : i ≡ j = inv i j (entry_at t j).address.0 (omega arith) l (subst (λ z. holds (entry_at t j).address.0 z ≡ true) (entry_front t j i below) hi)
    (and_from (has_mark (entry_at t j).mark) (eqb (entry_at t j).address.0 (entry_at t j).address.0) m (eq-eqb (entry_at t j).address.0 (entry_at t j).address.0 refl)) in
    omega arith
  where
    short : (i : ℕ) → i < length (take j t) → i < j
    short i li = omega (arith, Rattle.std.proofs.lemmas.List.length-take j t)

pub distinct_none : (t : Table) → DistinctBelow t 0
distinct_none t i j a li lj hi hj = absurd (omega arith)

-- A search for an address among entries, by whether what is left of them holds it.
module _ (xs : Table) (i a : ℕ) (m : Bool) (l : i < length xs) (e : m ≡ has_mark (entry_at xs i).mark) (inv : held (drop i xs) a ≡ held xs a) where
  held_step : held (drop i xs) a ≡ (holds a (entry_at xs i) || held (drop (i + 1) xs) a)
  held_step = at_drop_more (λ z. held z a) xs i empty l

  pub held_found : (m && eqb (entry_at xs i).address.0 a) ≡ true → true ≡ held xs a
  held_found h =
      let here : holds a (entry_at xs i) ≡ true = ap (λ z. z && eqb (entry_at xs i).address.0 a) (sym e) ∙ h in
      sym (or_left (holds a (entry_at xs i)) (held (drop (i + 1) xs) a) here) ∙ sym held_step ∙ inv

  pub held_passed : (m && eqb (entry_at xs i).address.0 a) ≡ false → held (drop (i + 1) xs) a ≡ held xs a
  held_passed h =
      let here : holds a (entry_at xs i) ≡ false = ap (λ z. z && eqb (entry_at xs i).address.0 a) (sym e) ∙ h in
      sym (ap (λ z. z || held (drop (i + 1) xs) a) here) ∙ sym held_step ∙ inv

pub held_end : (xs : Table) (i a : ℕ) → length xs ≤ i → held (drop i xs) a ≡ held xs a → false ≡ held xs a
held_end xs i a l inv = sym (ap (λ z. held z a) (drop_all i xs l)) ∙ inv
