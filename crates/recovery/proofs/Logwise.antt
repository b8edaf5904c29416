-- Log pages, read one after another, and what their records make of the table.
use Rattle.std.proofs.Common.{◌≡◌, ℕ, ◌+◌, ◌<◌, ◌≤◌, true, ◌⊎◌, List, [], ◌∷◌, length, get_or, take, drop, Some, None, Option, sym, ap, ◌∙◌, subst, ap₂, inl, inr, add-one, arith}
use Rattle.std.proofs.lemmas.List.{take_more, take_all, take-append-drop}
use Rattle.device.specs.declared.faults.Fault.{Fault}
use Rattle.device.specs.declared.faults.Refusal.TheVariants.{Breach}
use Rattle.arrayvec.specs.ArrayVec.{ArrayVec}
use Rattle.device.specs.Chips.{Note, State, Pages}
use Rattle.device.specs.Chips.State.{held}
use Rattle.layout.specs.declared.areas.Area.{Area}
use Rattle.layout.specs.declared.records.Record.{Record}
use Rattle.layout.specs.Geometry.{log_pages, log_page_at}
use Rattle.layout.specs.Pages.{LogRead}
use Rattle.layout.proofs.Unique.{one_log}
use Rattle.table.specs.Tables.{Table, apply, replayed}
use Rattle.table.proofs.Changing.{replayed_append, replayed_breach}
use Rattle.recovery.specs.Recovering.{cache_fault, LogStep, Logged}
use Rattle.recovery.specs.Looking.{shown, Quiet, Lost}
use Rattle.recovery.specs.Logs.{Replays, Unlogged}
use Rattle.recovery.proofs.Lookwise.{quiet_shown}
use Rattle.std.proofs.Common.{zero, suc, eqb, refl, MatchBool, ⊎_elim}
use Rattle.std.proofs.lemmas.Bool.{eq-eqb, ne_eqb, cases_eq}
use Rattle.device.specs.Chips.State.{blank, torn}
use Rattle.table.specs.Tables.{ProperTable}
use Rattle.table.proofs.Changing.{replayed_keeps}

-- Records replayed one after another: u is what the first k of them make of t.
module _ (t u : Table) (rs : List Record) (k : ℕ) (so_far : replayed (Some t) (take k rs) ≡ Some u) where
  replay_next : (d : Record) → k < length rs → replayed (Some t) (take (k + 1) rs) ≡ apply u (get_or rs k d)
  replay_next d l =
      ap (replayed (Some t)) (take_more rs k d l) ∙ replayed_append (Some t) (take k rs) (get_or rs k d ∷ []) ∙ ap (λ o. replayed o (get_or rs k d ∷ [])) so_far

  pub replay_more : (v : Table) (d : Record) → k < length rs → apply u (get_or rs k d) ≡ Some v → replayed (Some t) (take (k + 1) rs) ≡ Some v
  replay_more v d l e = replay_next d l ∙ e

  -- a record that does not fit stops the rest
  pub replay_stuck : (d : Record) → k < length rs → apply u (get_or rs k d) ≡ None → replayed (Some t) rs ≡ None
  replay_stuck d l e =
      ap (replayed (Some t)) (sym (take-append-drop (k + 1) rs)) ∙ replayed_append (Some t) (take (k + 1) rs) (drop (k + 1) rs)
      ∙ ap (λ o. replayed o (drop (k + 1) rs)) (replay_next d l ∙ e) ∙ replayed_breach (drop (k + 1) rs)

  pub replay_all : length rs ≤ k → replayed (Some t) rs ≡ Some u
  replay_all l = ap (replayed (Some t)) (sym (take_all k rs l)) ∙ so_far

-- One page

-- a page reads as one list of records only, so where that list does not fit the table, none does
pub page_stuck : (note : Note) (bytes : List ℕ) (records : ArrayVec Record) (t : Table) → LogRead note bytes (Some records)
    → replayed (Some t) records.items ≡ None → (v : Table) → Replays note bytes t v → ⊥
page_stuck note bytes records t (ok, a, b) h v w =
    let same : records.items ≡ w.0 = one_log records.items w.0 ok w.1 (ap₂ held (sym a ∙ w.2) (sym b ∙ w.3)) in
    not_both v (replayed (Some t) w.0) w.4 (ap (replayed (Some t)) (sym same) ∙ h)
  where
    not_both : (v : Table) (o : Option Table) → o ≡ Some v → o ≡ None → ⊥
    not_both v o x y = let z : ◌≡◌ {A = ℕ} 0 1 = cc in omega arith

pub not_stepped : (page : State) (note : Note) (bytes : List ℕ) (j : ℕ) (t : Table) (n : ℕ) → page ≡ held note bytes → ((u : Table) → Replays note bytes t u → ⊥)
    → (v : Table) (k : ℕ) → LogStep page j t n v k → ⊥
not_stepped page note bytes j t n e none v k h =
    let w : LogStep (held note bytes) j t n v k = subst (λ z. LogStep z j t n v k) e h in none v (w.0, w.1, w.2, w.3, w.4)

-- Page after page: what a later look saw is what the chip showed at first
module _ (D : ℕ) (m m₁ : Pages) (area : Area) (j : ℕ) (t u : Table) (n : ℕ) (q : Quiet m m₁) (before : Logged D (shown m) area j t u n) where
  pub logged_more : (v : Table) (k : ℕ) → LogStep (shown m₁ (log_page_at D area j)) j u n v k → Logged D (shown m) area (j + 1) t v k
  logged_more v k h =
      subst (λ i. Logged D (shown m) area i t v k) (sym (add-one j))
      (u, n, before, subst (λ page. LogStep page j u n v k) (quiet_shown m m₁ q (log_page_at D area j)) h)

  pub logged_stuck : (m₂ : Pages) (f : Fault) → j < log_pages D
      → Lost f m₂ ⊎ ((m₂.on ≡ true) × ((f ≡ cache_fault (log_page_at D area j) Breach) × ((v : Table) (k : ℕ) → LogStep (shown m₁ (log_page_at D area j)) j u n v k → ⊥)))
      → Lost f m₂ ⊎ ((m₂.on ≡ true) × Unlogged D (shown m) area t f)
  logged_stuck m₂ f l (inl x) = inl x
  logged_stuck m₂ f l (inr (on, (e, not))) =
      inr (
        on,
        (
          j,
          u,
          n,
          e,
          l,
          before,
          λ v k h. not v k (subst (λ page. LogStep page j u n v k) (sym (quiet_shown m m₁ q (log_page_at D area j))) h),
        ),
      )

-- a count of records that fit says whether all do
pub counted_replay : (t u : Table) (rs : List Record) (r n : ℕ) → length rs ≡ n → r ≤ length rs → replayed (Some t) (take r rs) ≡ Some u
    → (r < length rs → replayed (Some t) (take (r + 1) rs) ≡ None) → MatchBool (eqb r n) (replayed (Some t) rs ≡ Some u) (replayed (Some t) rs ≡ None)
counted_replay t u rs r n long few fit stuck =
    ⊎_elim
    (λ (e : r ≡ n). rw (eq-eqb r n e) (ap (replayed (Some t)) (sym (take_all r rs (omega arith))) ∙ fit))
    (λ (ne : r ≡ n → ⊥). rw (ne_eqb r n ne)
    (ap (replayed (Some t)) (sym (take-append-drop (r + 1) rs)) ∙ replayed_append (Some t) (take (r + 1) rs) (drop (r + 1) rs)
    ∙ ap (λ o. replayed o (drop (r + 1) rs)) (stuck (omega arith)) ∙ replayed_breach (drop (r + 1) rs)))
    (cases_eq r n)

-- The log leaves a proper table proper, and as long as it was.
abbrev Kept : Table → Table → Type 0
Kept t u = ProperTable u × (length u ≡ length t)

step_keeps : (page : State) (j : ℕ) (t : Table) (n : ℕ) (u : Table) (m : ℕ) → ProperTable t → LogStep page j t n u m → Kept t u
step_keeps blank j t n u m p (e, f) = subst (Kept t) (sym e) (p, refl)
step_keeps torn j t n u m p (e, f) = subst (Kept t) (sym e) (p, refl)
step_keeps (held note bytes) j t n u m p (rs, ok, a, b, e, f) =
    replayed_keeps (Some t) rs (length t) (λ v d. subst (Kept t) (same v d) (p, refl)) ok.each u e
  where
    same : (v : Table) → Some t ≡ Some v → t ≡ v
    same v d = cc

pub logged_keeps : (D : ℕ) (s : ℕ → State) (area : Area) (j : ℕ) (t u : Table) (m : ℕ) → ProperTable t → Logged D s area j t u m → Kept t u
logged_keeps D s area zero t u m p (e, f) = subst (Kept t) (sym e) (p, refl)
logged_keeps D s area (suc j) t u m p (v, n, h, x) =
    let before = logged_keeps D s area j t v n p h in
    let after = step_keeps (s (log_page_at D area j)) j v n u m before.0 x in
    (after.0, after.1 ∙ before.1)
