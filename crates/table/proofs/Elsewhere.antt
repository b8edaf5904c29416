-- What a change of the table leaves of the other addresses, and what it makes of the marks.
use Rattle.std.proofs.Common.{◌≡◌, ℕ, zero, suc, true, false, cond, ◌&&◌, ◌||◌, eqb, ◌⊎◌, [], ◌∷◌, set, sym, refl, ap, ◌∙◌, ap₂, inl, inr, ⊎_elim}
use Rattle.std.proofs.lemmas.Bool.{both_ways, false_from_ne_true, cases_Bool, cond-true, cond-false}
use Rattle.layout.specs.declared.entries.Entry.{Entry}
use Rattle.layout.specs.declared.entries.Mark.{Mark}
use Rattle.layout.specs.declared.entries.Mark.TheVariants.{Empty, Clean}
use Rattle.table.specs.Tables.{Table, entry, entry_at, marked_at, holds, held, mark_of, without, cleaned_entry, cleaned, entered}
use Rattle.table.specs.Views.{entry_with, remarked_entry, remarked}
use Rattle.table.proofs.Tablewise.{holds_parts, holds_from, holds_one}
use Rattle.table.proofs.Changing.{with_holds, remarked_holds, without_at}

-- Another mark for the address a, and another address b

module _ (m : Mark) (a b : ℕ) (other : a ≡ b → ⊥) where
  remarked_elsewhere : (e : Entry) → (remarked_entry m a e ≡ e) ⊎ ((holds b (remarked_entry m a e) ≡ false) × (holds b e ≡ false))
  remarked_elsewhere e =
      ⊎_elim
      (λ y.
      inr (
        ap (holds b) (cond-true (holds a e) (entry_with m a) e y) ∙ false_from_ne_true (holds b (entry_with m a)) (λ h. other (with_holds m a b h)),
        false_from_ne_true (holds b e) (λ h. other (holds_one a b e y h)),
      ))
      (λ n. inl (cond-false (holds a e) (entry_with m a) e n))
      (cases_Bool (holds a e))

  pub mark_remarked_other : (t : Table) → mark_of (remarked t m a) b ≡ mark_of t b
  mark_remarked_other [] = refl
  mark_remarked_other (e ∷ es) =
      let rest = mark_remarked_other es in
      ⊎_elim
      (λ same. ap₂ (λ x r. cond (holds b x) x.mark r) same rest)
      (λ none.
      cond-false (holds b (remarked_entry m a e)) (remarked_entry m a e).mark (mark_of (remarked es m a) b) none.0
      ∙ rest
      ∙ sym (cond-false (holds b e) e.mark (mark_of es b) none.1))
      (remarked_elsewhere e)

  pub held_remarked_other : (t : Table) → held (remarked t m a) b ≡ held t b
  held_remarked_other [] = refl
  held_remarked_other (e ∷ es) =
      let rest = held_remarked_other es in
      ⊎_elim (λ same. ap₂ (λ x r. holds b x || r) same rest) (λ none. ap₂ ◌||◌ (none.0 ∙ sym none.1) rest) (remarked_elsewhere e)

module _ (t : Table) (a b : ℕ) (other : a ≡ b → ⊥) where
  pub mark_without_other : mark_of (without t a) b ≡ mark_of t b
  mark_without_other = mark_remarked_other Empty a b other t

  pub held_without_other : held (without t a) b ≡ held t b
  held_without_other = held_remarked_other Empty a b other t

  pub mark_cleaned_other : mark_of (cleaned t a) b ≡ mark_of t b
  mark_cleaned_other = mark_remarked_other Clean a b other t

-- Marked clean, an address is held as before

pub mark_cleaned : (t : Table) (a : ℕ) → held t a ≡ true → mark_of (cleaned t a) a ≡ Clean
mark_cleaned [] a h = absurd (both_ways false refl h)
mark_cleaned (e ∷ es) a h =
    ⊎_elim
    (λ y.
    ap (λ x. cond (holds a x) x.mark (mark_of (cleaned es a) a)) (cond-true (holds a e) (entry Clean a) e y)
    ∙ cond-true (holds a (entry Clean a)) Clean (mark_of (cleaned es a) a) (holds_from a (entry Clean a) refl refl))
    (λ n.
    ap (λ x. cond (holds a x) x.mark (mark_of (cleaned es a) a)) (cond-false (holds a e) (entry Clean a) e n)
    ∙ cond-false (holds a e) e.mark (mark_of (cleaned es a) a) n
    ∙ mark_cleaned es a (ap (λ x. x || held es a) (sym n) ∙ h))
    (cases_Bool (holds a e))

cleaned_same : (a b : ℕ) (e : Entry) → holds b (cleaned_entry a e) ≡ holds b e
cleaned_same a b e =
    ⊎_elim
    (λ y.
    let p = holds_parts a e y in
    ap (holds b) (cond-true (holds a e) (entry Clean a) e y) ∙ sym (ap₂ (λ f n. f && eqb n b) p.0 p.1))
    (λ n. ap (holds b) (cond-false (holds a e) (entry Clean a) e n))
    (cases_Bool (holds a e))

pub held_cleaned : (t : Table) (a b : ℕ) → held (cleaned t a) b ≡ held t b
held_cleaned [] a b = refl
held_cleaned (e ∷ es) a b = ap₂ ◌||◌ (cleaned_same a b e) (held_cleaned es a b)

-- A page written anew, and an address that it neither held nor holds

module _ (b : ℕ) (e : Entry) (not_new : holds b e ≡ false) where
  mark_set_other : (t : Table) (p : ℕ) → holds b (entry_at t p) ≡ false → mark_of (set t p e) b ≡ mark_of t b
  mark_set_other [] p not_old = refl
  mark_set_other (x ∷ xs) zero not_old =
      cond-false (holds b e) e.mark (mark_of xs b) not_new ∙ sym (cond-false (holds b x) x.mark (mark_of xs b) not_old)
  mark_set_other (x ∷ xs) (suc p) not_old = ap (λ r. cond (holds b x) x.mark r) (mark_set_other xs p not_old)

  held_set_other : (t : Table) (p : ℕ) → holds b (entry_at t p) ≡ false → held (set t p e) b ≡ held t b
  held_set_other [] p not_old = refl
  held_set_other (x ∷ xs) zero not_old = ap (λ y. y || held xs b) (not_new ∙ sym not_old)
  held_set_other (x ∷ xs) (suc p) not_old = ap (λ r. holds b x || r) (held_set_other xs p not_old)

module _ (t : Table) (p : ℕ) (m : Mark) (a b : ℕ) (other : a ≡ b → ⊥) (unmarked : marked_at t p ≡ false) where
  not_new : holds b (entry m a) ≡ false
  not_new = false_from_ne_true (holds b (entry m a)) (λ h. other (holds_parts b (entry m a) h).1)

  not_old : holds b (entry_at (without t a) p) ≡ false
  not_old =
      false_from_ne_true (holds b (entry_at (without t a) p))
      (λ h. both_ways (marked_at t p) unmarked (holds_parts b (entry_at t p) (remarked_holds Empty a b (entry_at t p) (ap (holds b) (sym (without_at t a p)) ∙ h))).0)

  pub mark_entered_other : mark_of (entered t p m a) b ≡ mark_of t b
  mark_entered_other = mark_set_other b (entry m a) not_new (without t a) p not_old ∙ mark_without_other t a b other

  pub held_entered_other : held (entered t p m a) b ≡ held t b
  held_entered_other = held_set_other b (entry m a) not_new (without t a) p not_old ∙ held_without_other t a b other
