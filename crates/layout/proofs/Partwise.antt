-- The parts of a table, 64 entries each, as a list is cut into them, written over and put together again.
use Rattle.std.proofs.Common.{◌≡◌, ℕ, zero, suc, ◌+◌, ◌-◌, ◌*◌, ◌<◌, ◌≤◌, min, List, ◌++◌, length, take, drop, sym, refl, ap, ◌∙◌, ap₂, ⊎_elim, arith, take-add}
use native.Mathlib.Nat.{min-eq_left, min-eq_right}
use borrow.Rule.Slice.PartMut.{put_mid}
use Rattle.std.proofs.lemmas.Bool.{cases_lt}
use Rattle.std.proofs.lemmas.List.{take_all, take_at, drop_at, length-append, length-drop, length-take, length-take-le}
use Rattle.std.proofs.lemmas.List.{take-append-drop}

front_is : {X : Type 0} (ys : List X) (k : ℕ) → k ≡ min 64 (length ys) → take k ys ≡ take 64 ys
front_is ys k e =
    ⊎_elim
    (λ (h : length ys < 64).
    let n : length ys ≤ 64 = omega arith in
    let e' : k ≡ length ys = e ∙ min-eq_right n in
    take_all k ys (omega arith) ∙ sym (take_all 64 ys n))
    (λ (h : 64 ≤ length ys). ap (λ m. take m ys) (e ∙ min-eq_left h))
    (cases_lt (length ys) 64)

-- A part that begins at a and ends at e, where 64 entries or the list end.
module _ {X : Type 0} (table : List X) (a e : ℕ) (inside : a ≤ length table) (within : e ≤ length table) (size : e - a ≡ min 64 (length table - a)) where
  -- the part as a slice
  pub part_is : take (e - a) (drop a table) ≡ take 64 (drop a table)
  part_is = front_is (drop a table) (e - a) (size ∙ ap (min 64) (sym (length-drop a table)))

  -- as long in each list of this length
  pub part_length : (t : List X) → length t ≡ length table → length (take 64 (drop a t)) ≡ e - a
  part_length t l = length-take 64 (drop a t) ∙ ap (min 64) (length-drop a t ∙ ap (λ n. n - a) l) ∙ sym size

  -- the part after it was written over
  pub part_after : (part : List X) → length part ≡ e - a → take 64 (drop a (put_mid a (e - a) table part)) ≡ part
  part_after part l =
      let post : List X = drop (e - a) (drop a table) in
      let cut : drop a (put_mid a (e - a) table part) ≡ part ++ post = drop_at (take a table) (part ++ post) a (length-take-le a table inside) in
      let d₁ : length (drop a table) ≡ length table - a = length-drop a table in
      let d₂ : length post ≡ length (drop a table) - (e - a) = length-drop (e - a) (drop a table) in
      let total : length (part ++ post) ≡ length table - a = length-append part post ∙ omega arith in
      ap (take 64) cut ∙ sym (front_is (part ++ post) (e - a) (size ∙ ap (min 64) (sym total))) ∙ take_at part post (e - a) l

-- lists that agree part by part agree so far, and are the same where the parts are all of both
pub same_front : {X : Type 0} (t u : List X) (n : ℕ) → ((j : ℕ) → j < n → take 64 (drop (64 * j) t) ≡ take 64 (drop (64 * j) u)) → take (64 * n) t ≡ take (64 * n) u
same_front t u zero same = refl
same_front t u (suc n) same =
    let m : 64 * suc n ≡ 64 * n + 64 = omega arith in
    let before = same_front t u n (λ j h. same j (omega arith)) in
    ap (λ k. take k t) m ∙ take-add (64 * n) 64 t ∙ ap₂ ◌++◌ before (same n (omega arith)) ∙ sym (take-add (64 * n) 64 u) ∙ ap (λ k. take k u) (sym m)

pub same_parts : {X : Type 0} (t u : List X) (n : ℕ) → length t ≤ 64 * n → length u ≤ 64 * n
    → ((j : ℕ) → j < n → take 64 (drop (64 * j) t) ≡ take 64 (drop (64 * j) u)) → t ≡ u
same_parts t u n ht hu same = sym (take_all (64 * n) t ht) ∙ same_front t u n same ∙ take_all (64 * n) u hu

-- a part written over with itself
module _ {X : Type 0} (table : List X) (a e : ℕ) (inside : a ≤ length table) (within : e ≤ length table) (size : e - a ≡ min 64 (length table - a)) where
  pub part_same : (part : List X) → part ≡ take (e - a) (drop a table) → put_mid a (e - a) table part ≡ table
  part_same part h =
      ap (λ z. take a table ++ (z ++ drop (e - a) (drop a table))) h ∙ ap (λ z. take a table ++ z) (take-append-drop (e - a) (drop a table))
      ∙ take-append-drop a table
