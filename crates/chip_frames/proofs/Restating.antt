-- Loops that write state bytes, one frame after another.
use Rattle.std.proofs.Common.{◌≡◌, ℕ, zero, suc, ◌+◌, ◌*◌, ◌%◌, ◌<◌, ◌≤◌, List, length, get_or, set, refl, ap, sym, subst, ◌∙◌, ⊎_elim, arith}
use Rattle.std.proofs.lemmas.List.{get_or-set_other, get_or-set_same}
use Rattle.std.proofs.lemmas.Bool.{cases_eq}
use Rattle.device.specs.Cells.{is_unsettled}
use Rattle.device.specs.Chips.{State}
use Rattle.chip_frames.specs.declared.states.State as S
use Rattle.chip_frames.specs.declared.states.Fate.{Fate}
use Rattle.chip_frames.specs.Codes.{state_of, fate_of, state_number, Changes}
use Rattle.chip_frames.specs.Frames.{state_at, decode, unsettled_state}

-- each frame q below p has a state s with P q s, and the others have theirs from before
pub record RestatedBelow (xs : List ℕ) (P : ℕ → ℕ → Type 0) (p : ℕ) (ys : List ℕ) : Type 0 where
  pub done : (q : ℕ) → q < p → P q (state_at ys q)
  pub rest : (q : ℕ) → p ≤ q → state_at ys q ≡ state_at xs q
  pub others : (k : ℕ) → (k % 520 ≡ 0 → ⊥) → get_or ys k 0 ≡ get_or xs k 0

pub restated_none : (xs : List ℕ) (P : ℕ → ℕ → Type 0) → RestatedBelow xs P 0 xs
restated_none xs P = record { done = λ q h. absurd (omega arith); rest = λ q h. refl; others = λ k h. refl }

pub restated_more : (xs ys : List ℕ) (P : ℕ → ℕ → Type 0) (p s : ℕ) → 520 * p < length ys → P p s → RestatedBelow xs P p ys → RestatedBelow xs P (p + 1) (set ys (520 * p) s)
restated_more xs ys P p s l e inv = record {
  done = λ q h. ⊎_elim
      (λ (d : q ≡ p). rw d (subst (P p) (sym (get_or-set_same ys (520 * p) s 0 l)) e))
      (λ (ne : q ≡ p → ⊥). subst (P q) (sym (get_or-set_other ys (520 * p) (520 * q) s 0 (omega arith))) (inv.done q (omega arith)))
      (cases_eq q p);
  rest = λ q h. get_or-set_other ys (520 * p) (520 * q) s 0 (omega arith) ∙ inv.rest q (omega arith);
  others = λ k h. get_or-set_other ys (520 * p) k s 0 (λ d. h (omega arith)) ∙ inv.others k h;
}

-- a call of the change at a frame's state and fate, which are as they were before the loop
pub changes_here : (post : S.State → Fate → S.State → Type 0) (s s' f f' after : ℕ) (state result : S.State) (fate : Fate)
    → state ≡ state_of s → fate ≡ fate_of f → s ≡ s' → f ≡ f' → post state fate result → after ≡ state_number result → Changes post s' f' after
changes_here post s s' f f' after state result fate a b c d says e =
    let x = a ∙ ap state_of c in
    let y = b ∙ ap fate_of d in
    (result, subst (λ z. post z (fate_of f') result) x (subst (λ z. post state z result) y says), e)

pub decode_unsettled : (s : ℕ) (h : State) → unsettled_state s ≡ is_unsettled (decode s h)
decode_unsettled zero h = refl
decode_unsettled (suc zero) h = refl
decode_unsettled (suc (suc zero)) h = refl
decode_unsettled (suc (suc (suc zero))) h = refl
decode_unsettled (suc (suc (suc (suc zero)))) h = refl
decode_unsettled (suc (suc (suc (suc (suc zero))))) h = refl
decode_unsettled (suc (suc (suc (suc (suc (suc n)))))) h = refl
