-- The cheapest of a range of numbers, as `min_by_key` finds it among those that pass a test: the first of the least.
use denote.Param.Members.{Mut}
use denote.Ref.{Bor}
use Rattle.std.proofs.Common.{◌≡◌, ℕ, zero, suc, ◌+◌, ◌<◌, ◌≤◌, Bool, true, false, ◌⊎◌, List, [], ◌∷◌, Some, None, Option, sym, refl, ap, ◌∙◌, subst, inl, inr, ⊎_elim, arith}
use Rattle.std.proofs.lemmas.List.{map-id}
use Rattle.std.proofs.lemmas.Bool.{both_ways, cases_Bool, cases_eq, cond-true, cond-false}
use Rattle.std.proofs.lemmas.Iterator.{YieldsList, items_from_drains}
use Rattle.std.specs.Cmp.{ranked}
use Rattle.std.specs.Fn.{CalledAt}
use Rattle.std.specs.Iterator.{KeyTurn, PicksMinByKey, Drains}
use Rattle.std.specs.List.{FoldsTo, filter, range_with_len}
use Rattle.std.specs.Ordering.{nat_cmp, min_by_ordering}
use Rattle.std.specs.declared.cmp.Ordering.{Ordering}
use Rattle.std.specs.declared.cmp.Ordering.TheVariants.{Less, Equal, Greater}
use Rattle.table.specs.Choices.{Cheapest, Chooses}

module _ (test : ℕ → Bool) (key : ℕ → ℕ) where
  -- y is the best of m and of the numbers from a up to `end` that pass
  record Beats (a end m y : ℕ) : Type 0 where
    place : (y ≡ m) ⊎ ((a ≤ y) × (y < end) × (test y ≡ true) × (key y < key m))
    low : key y ≤ key m
    least : (c : ℕ) → a ≤ c → c < end → test c ≡ true → key y ≤ key c
    lowest : (c : ℕ) → a ≤ c → c < y → test c ≡ true → key y < key c

  -- what holds of a number and of those after it
  from_next : (P : ℕ → Type 0) (a end : ℕ) → (a < end → P a) → ((c : ℕ) → a + 1 ≤ c → c < end → P c) → (c : ℕ) → a ≤ c → c < end → P c
  from_next P a end here later c ge lt = ⊎_elim (λ e. subst P (sym e) (here (omega arith))) (λ ne. later c (omega arith) lt) (cases_eq c a)

  beats_passed : (a end m y : ℕ) → test a ≡ false → Beats (a + 1) end m y → Beats a end m y
  beats_passed a end m y off h = record {
    place = ⊎_elim inl (λ p. inr (omega (arith, p.0), p.1, p.2, p.3)) h.place;
    low = h.low;
    least = from_next (λ c. test c ≡ true → key y ≤ key c) a end (λ l on. absurd (both_ways (test a) off on)) h.least;
    lowest = from_next (λ c. test c ≡ true → key y < key c) a y (λ l on. absurd (both_ways (test a) off on)) h.lowest;
  }

  -- the number a costs less than m
  beats_taken : (a end m y : ℕ) → a < end → test a ≡ true → key a < key m → Beats (a + 1) end a y → Beats a end m y
  beats_taken a end m y inside on less h = record {
    place = inr (⊎_elim
        (λ e. (omega arith, omega arith, ap test e ∙ on, omega (arith, ap key e)))
        (λ p. (omega (arith, p.0), p.1, p.2, omega (arith, p.3))) h.place);
    low = omega (arith, h.low);
    least = from_next (λ c. test c ≡ true → key y ≤ key c) a end (λ l t. h.low) h.least;
    lowest = from_next (λ c. test c ≡ true → key y < key c) a y (λ l t. ⊎_elim (λ e. absurd (omega arith)) (λ p. p.3) h.place) h.lowest;
  }

  -- the number a costs as much as m, or more
  beats_left : (a end m y : ℕ) → m < a → key m ≤ key a → Beats (a + 1) end m y → Beats a end m y
  beats_left a end m y before more h = record {
    place = ⊎_elim inl (λ p. inr (omega (arith, p.0), p.1, p.2, p.3)) h.place;
    low = h.low;
    least = from_next (λ c. test c ≡ true → key y ≤ key c) a end (λ l t. omega (arith, h.low)) h.least;
    lowest = from_next (λ c. test c ≡ true → key y < key c) a y
        (λ l t. ⊎_elim (λ e. absurd (omega arith)) (λ p. omega (arith, p.3)) h.place) h.lowest;
  }

  module _ {F : Type 0} (g : Mut F (Bor ℕ × Unit {0}) ℕ) (f : F) (calls : (x k : ℕ) (q : F) → CalledAt g f x k q → (q ≡ f) × (k ≡ key x)) where
    abbrev Turn : (F × ℕ) × ℕ → ℕ → (F × ℕ) × ℕ → Type 0
    Turn = KeyTurn min_by_ordering min_by_ordering g nat_cmp

    abbrev At : (F × ℕ) × ℕ → Type 0
    At p = (p.0.0 ≡ f) × (p.0.1 ≡ key p.1)

    turned : (o : Ordering) (p q : (F × ℕ) × ℕ) (a k : ℕ) → At p → q.0.0 ≡ f → k ≡ key a → o ≡ nat_cmp p.0.1 k → q.0.1 ≡ min_by_ordering o p.0.1 k → q.1 ≡ min_by_ordering o p.1 a
        → At q × (((q.1 ≡ a) × (key a < key p.1)) ⊎ ((q.1 ≡ p.1) × (key p.1 ≤ key a)))
    turned Less p q a k at same is o costs best = let l = ranked p.0.1 k Less o in ((same, costs ∙ at.1 ∙ ap key (sym best)), inr (best, omega (arith, l, at.1)))
    turned Equal p q a k at same is o costs best = let l = ranked p.0.1 k Equal o in ((same, costs ∙ at.1 ∙ ap key (sym best)), inr (best, omega (arith, l, at.1)))
    turned Greater p q a k at same is o costs best = let l = ranked p.0.1 k Greater o in ((same, costs ∙ is ∙ ap key (sym best)), inl (best, omega (arith, l, at.1)))

    folds_beat : (n a : ℕ) (p q : (F × ℕ) × ℕ) → At p → p.1 < a → FoldsTo Turn p (filter test (range_with_len a n)) q → Beats a (a + n) p.1 q.1
    folds_beat zero a p q at before h = record {
      place = inl (ap (λ r. r.1) (sym h));
      low = omega (arith, ap (λ r. key r.1) h);
      least = λ c ge lt on. absurd (omega arith);
      lowest = λ c ge lt on. absurd (omega (arith, ap (λ r. r.1) h));
    }
    folds_beat (suc n) a p q at before h =
        ⊎_elim
        (λ on.
        let t = subst (λ xs. FoldsTo Turn p xs q) (cond-true (test a) (a ∷ filter test (range_with_len (a + 1) n)) (filter test (range_with_len (a + 1) n)) on) h in
        let j = t.0 in
        let c = calls a t.1.0 j.0.0 (subst (λ e. CalledAt g e a t.1.0 j.0.0) at.0 t.1.2) in
        let s = turned t.1.1 p j a t.1.0 at c.0 c.1 (sym t.1.3) t.1.4 t.1.5 in
        let later = folds_beat n (a + 1) j q s.0 (⊎_elim (λ x. omega (arith, x.0)) (λ x. omega (arith, x.0)) s.1) t.2 in
        ⊎_elim
        (λ x. beats_taken a (a + suc n) p.1 q.1 (omega arith) on x.1 (subst (λ e. Beats (a + 1) e a q.1) (omega arith) (subst (λ m. Beats (a + 1) (a + 1 + n) m q.1) x.0 later)))
        (λ x. beats_left a (a + suc n) p.1 q.1 before x.1 (subst (λ e. Beats (a + 1) e p.1 q.1) (omega arith) (subst (λ m. Beats (a + 1) (a + 1 + n) m q.1) x.0 later)))
        s.1)
        (λ off.
        let t = subst (λ xs. FoldsTo Turn p xs q) (cond-false (test a) (a ∷ filter test (range_with_len (a + 1) n)) (filter test (range_with_len (a + 1) n)) off) h in
        beats_passed a (a + suc n) p.1 q.1 off (subst (λ e. Beats (a + 1) e p.1 q.1) (omega arith) (folds_beat n (a + 1) p q at (omega arith) t)))
        (cases_Bool (test a))

    -- none passes
    none_passes : (n a : ℕ) → [] ≡ filter test (range_with_len a n) → (c : ℕ) → a ≤ c → c < a + n → test c ≡ false
    none_passes zero a h = λ c ge lt. absurd (omega arith)
    none_passes (suc n) a h =
        ⊎_elim
        (λ on. let t = h ∙ cond-true (test a) (a ∷ filter test (range_with_len (a + 1) n)) (filter test (range_with_len (a + 1) n)) on in absurd (cc))
        (λ off. from_next (λ c. test c ≡ false) a (a + suc n) (λ l. off)
        (λ c ge lt. none_passes n (a + 1) (h ∙ cond-false (test a) (a ∷ filter test (range_with_len (a + 1) n)) (filter test (range_with_len (a + 1) n)) off) c ge (omega arith)))
        (cases_Bool (test a))

    -- the best of those that pass, from the first of them on
    best_passes : (n a x : ℕ) (xs : List ℕ) (k : ℕ) (q : (F × ℕ) × ℕ) (f' : F) → x ∷ xs ≡ filter test (range_with_len a n) → CalledAt g f x k f' → FoldsTo Turn ((f', k), x) xs q → Cheapest test key a (a + n) q.1
    best_passes zero a x xs k q f' h called folds = absurd (cc)
    best_passes (suc n) a x xs k q f' h called folds =
        ⊎_elim
        (λ on.
        let t = h ∙ cond-true (test a) (a ∷ filter test (range_with_len (a + 1) n)) (filter test (range_with_len (a + 1) n)) on in
        let first : x ≡ a = cc in
        let rest : xs ≡ filter test (range_with_len (a + 1) n) = cc in
        let b = folds_beat n (a + 1) ((f', k), x) q (calls x k f' called) (omega arith) (subst (λ ys. FoldsTo Turn ((f', k), x) ys q) rest folds) in
        let y = q.1 in record {
          from = ⊎_elim (λ e. omega arith) (λ p. omega (arith, p.0)) b.place;
          below = ⊎_elim (λ e. omega arith) (λ p. omega (arith, p.1)) b.place;
          fit = ⊎_elim (λ e. ap test (e ∙ first) ∙ on) (λ p. p.2) b.place;
          least = from_next (λ c. test c ≡ true → key y ≤ key c) a (a + suc n) (λ l t'. omega (arith, b.low, ap key first)) (λ c ge lt. b.least c ge (omega arith));
          lowest = λ c ge lt. from_next (λ d. test d ≡ true → key y < key d) a y
              (λ l t'. ⊎_elim (λ e. absurd (omega arith)) (λ p. omega (arith, p.3, ap key first)) b.place) b.lowest c ge lt;
        })
        (λ off.
        let t = h ∙ cond-false (test a) (a ∷ filter test (range_with_len (a + 1) n)) (filter test (range_with_len (a + 1) n)) off in
        let b = best_passes n (a + 1) x xs k q f' t called folds in record {
          from = omega (arith, b.from);
          below = omega (arith, b.below);
          fit = b.fit;
          least = from_next (λ c. test c ≡ true → key q.1 ≤ key c) a (a + suc n) (λ l on. absurd (both_ways (test a) off on)) (λ c ge lt. b.least c ge (omega arith));
          lowest = from_next (λ c. test c ≡ true → key q.1 < key c) a q.1 (λ l on. absurd (both_ways (test a) off on)) b.lowest;
        })
        (cases_Bool (test a))

    module _ {S : Type 0} {steps : S → Option ℕ → S → Type 0} {s : S} where
      drained : (xs all : List ℕ) → Drains steps s xs → YieldsList steps (λ x. x) s all → xs ≡ all
      drained xs all d road = sym (map-id xs) ∙ items_from_drains xs (d.1.0, d.1.1, λ u. (d.0, d.1.2)) road

      -- the answer of `min_by_key`
      pub chosen : (n a : ℕ) (r : Option ℕ) → PicksMinByKey steps g nat_cmp s f r → YieldsList steps (λ x. x) s (filter test (range_with_len a n)) → Chooses test key a (a + n) r
      chosen n a None h road = none_passes n a (drained [] (filter test (range_with_len a n)) h road)
      chosen n a (Some y) h road = best_passes n a h.0 h.1 h.2 (h.4, y) h.3 (drained (h.0 ∷ h.1) (filter test (range_with_len a n)) h.5 road) h.6 h.7

filter_all : (n a : ℕ) → filter (λ b. true) (range_with_len a n) ≡ range_with_len a n
filter_all zero a = refl
filter_all (suc n) a = ap (λ xs. a ∷ xs) (filter_all n (a + 1))

-- the same without a test
pub chosen_of_all : (key : ℕ → ℕ) {F : Type 0} (g : Mut F (Bor ℕ × Unit {0}) ℕ) (f : F) → ((x k : ℕ) (q : F) → CalledAt g f x k q → (q ≡ f) × (k ≡ key x)) → {S : Type 0} {steps : S → Option ℕ → S → Type 0} {s : S} (n a : ℕ) (r : Option ℕ) → PicksMinByKey steps g nat_cmp s f r → YieldsList steps (λ x. x) s (range_with_len a n) → Chooses (λ b. true) key a (a + n) r
chosen_of_all key g f calls n a r h road = chosen (λ b. true) key g f calls n a r h (subst (YieldsList _ (λ x. x) _) (sym (filter_all n a)) road)
