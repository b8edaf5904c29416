-- The stages of recovery, put together.
use Rattle.std.proofs.Common.{◌≡◌, ℕ, zero, suc, ◌*◌, ◌<◌, ◌≤◌, true, ◌⊎◌, List, [], ◌∷◌, ◌++◌, length, drop, Some, None, Ok, Err, Option, Result, sym, refl, ap, ◌∙◌, subst, inl, inr, ⊎_elim, arith}
use mathlib.Core.Path.{fun_ext}
use Rattle.std.proofs.lemmas.List.{take_all, get_or_past, length-append, length-drop}
use Rattle.std.proofs.lemmas.Bool.{cases_lt, true≢false}
use Rattle.std.specs.List.{AllByRecursion}
use Rattle.device.specs.declared.faults.Fault.{Fault}
use Rattle.device.specs.Chips.{State, Pages}
use Rattle.device.specs.Chips.State.{blank, torn, held}
use Rattle.layout.specs.declared.areas.Area.{Area}
use Rattle.layout.specs.declared.records.Record.{Record}
use Rattle.layout.specs.declared.records.Record.TheVariants.{PutClean, PutDirty, Drop, MarkClean}
use Rattle.layout.specs.declared.entries.Mark.{Mark}
use Rattle.layout.specs.declared.entries.Mark.TheVariants.{Clean, Dirty}
use Rattle.layout.specs.Entries.{ProperEntry}
use Rattle.layout.specs.Geometry.{geometry_refusal, data_pages, entry_pages, log_pages, log_page_at}
use Rattle.table.specs.Tables.{Table, empty, entry_at, holds, held as is_held_lem, without, cleaned, entered, put, apply, replayed, ProperTable}
use Rattle.table.proofs.Changing.{made_by, length_without, length_cleaned, length_entered, replayed_breach}
use Rattle.recovery.specs.Recovering.{Active, Entered, LogStep, Logged, Backed, Recovered, Failed}
use Rattle.recovery.specs.Recovering.Failed.{entry_page, log_page, data_page}
use Rattle.recovery.specs.declared.restored.Restored.{Restored}
use Rattle.recovery.specs.Restoring.{found_of, Restores}
use Rattle.recovery.specs.Looking.{shown, Quiet, Lost, Stage}
use Rattle.recovery.specs.Entering.{EntriesFail}
use Rattle.recovery.specs.Logs.{Unlogged}
use Rattle.recovery.specs.DataPages.{Unbacked}
use Rattle.recovery.proofs.Lookwise.{quiet_shown}

-- Records keep the length of a table.

put_length : (t : Table) (p : ℕ) (mark : Mark) (a : ℕ) (u : Table) → put t p mark a ≡ Some u → length u ≡ length t
put_length t p mark a u e = let (_, same) = made_by _ (entered t p mark a) u e in ap length (sym same) ∙ length_entered t p mark a

apply_length : (t : Table) (r : Record) (u : Table) → apply t r ≡ Some u → length u ≡ length t
apply_length t (PutClean p a) u e = put_length t p.0 Clean a.0 u e
apply_length t (PutDirty p a) u e = put_length t p.0 Dirty a.0 u e
apply_length t (Drop a) u e = let (_, same) = made_by (is_held_lem t a.0) (without t a.0) u e in ap length (sym same) ∙ length_without t a.0
apply_length t (MarkClean a) u e = let (_, same) = made_by (is_held_lem t a.0) (cleaned t a.0) u e in ap length (sym same) ∙ length_cleaned t a.0

some_same : (t u : Table) → Some t ≡ Some u → t ≡ u
some_same t u e = cc

replayed_length : (rs : List Record) (t u : Table) → replayed (Some t) rs ≡ Some u → length u ≡ length t
replayed_length [] t u e = ap length (sym (some_same t u e))
replayed_length (r ∷ rs) t u e = go (apply t r) refl (replayed_length rs) e
  where
    go : (o : Option Table) → apply t r ≡ o → ((v w : Table) → replayed (Some v) rs ≡ Some w → length w ≡ length v) → replayed o rs ≡ Some u → length u ≡ length t
    go None f more k = let z : None ≡ Some u = sym (replayed_breach rs) ∙ k in grind arith
    go (Some v) f more k = more v u k ∙ apply_length t r v f

step_length : (x : State) (j : ℕ) (t : Table) (n : ℕ) (u : Table) (m : ℕ) → LogStep x j t n u m → length u ≡ length t
step_length blank j t n u m (e, _) = ap length e
step_length torn j t n u m (e, _) = ap length e
step_length (held note bytes) j t n u m (records, _, _, _, e, _) = replayed_length records t u e

pub logged_length : (D : ℕ) (s : ℕ → State) (area : Area) (j : ℕ) (t u : Table) (m : ℕ) → Logged D s area j t u m → length u ≡ length t
logged_length D s area zero t u m (e, _) = ap length e
logged_length D s area (suc j) t u m (v, n, h, x) = step_length (s (log_page_at D area j)) j v n u m x ∙ logged_length D s area j t v n h

-- a checkpoint that was read whole is a proper table
pub entered_proper : (D : ℕ) (s : ℕ → State) (area : Area) (t : Table) → Entered D s area (entry_pages D) t → ProperTable t
entered_proper D s area t h = record {
  entries = subst (AllByRecursion ProperEntry) (take_all (64 * entry_pages D) t (omega (arith, h.long))) h.proper;
  distinct = λ i j a hi hj. h.distinct i j a (inside a i hi) (inside a j hj) hi hj;
}
  where
    inside : (a i : ℕ) → holds a (entry_at t i) ≡ true → i < 64 * entry_pages D
    inside a i x = ⊎_elim
        (λ (l : i < length t). omega (arith, h.long))
        (λ (l : length t ≤ i). absurd (true≢false (sym x ∙ ap (holds a) (get_or_past t i empty l))))
        (cases_lt i (length t))

-- What each stage's breach is to the whole.
module _ (D : ℕ) (s : ℕ → State) (area : Area) (n : ℕ) (active : Active D s area n) where
  pub entries_failed : (f : Fault) (k : Pages) → Lost f k ⊎ ((k.on ≡ true) × EntriesFail D s area f) → Lost f k ⊎ ((k.on ≡ true) × Failed D s f)
  entries_failed f k (inl x) = inl x
  entries_failed f k (inr (on, (j, t, e, l, h, stuck))) = inr (on, entry_page area n j t e active l h stuck)

  module _ (t : Table) (entries : Entered D s area (entry_pages D) t) where
    pub log_failed : (f : Fault) (k : Pages) → Lost f k ⊎ ((k.on ≡ true) × Unlogged D s area t f) → Lost f k ⊎ ((k.on ≡ true) × Failed D s f)
    log_failed f k (inl x) = inl x
    log_failed f k (inr (on, (j, u, m, e, l, h, stuck))) = inr (on, log_page area n j t u m e active l entries h stuck)

    -- behind the log, with what the data pages showed carried back to the chip as it was at first
    module _ (m₀ m₁ : Pages) (is : shown m₀ ≡ s) (quiet : Quiet m₀ m₁) (u : Table) (m : ℕ) (log : Logged D s area (log_pages D) t u m) where
      same : shown m₁ ≡ s
      same = fun_ext (quiet_shown m₀ m₁ quiet) ∙ is

      pub log_long : length u ≡ D
      log_long = logged_length D s area (log_pages D) t u m log ∙ entries.long

      pub data_failed : (f : Fault) (k : Pages) → Lost f k ⊎ ((k.on ≡ true) × Unbacked (shown m₁) u f) → Lost f k ⊎ ((k.on ≡ true) × Failed D s f)
      data_failed f k (inl x) = inl x
      data_failed f k (inr (on, (i, e, l, h, stuck))) =
          inr (on, data_page area n i t u m e active (omega (arith, log_long)) entries log (subst (λ z. Backed z u i) same h) (λ b. stuck (subst (λ z. Backed z u (suc i)) (sym same) b)))

      pub all_recovered : Backed (shown m₁) u (length u) → Recovered D s (record { table = u; area = area; number = n; next = m })
      all_recovered h = record {
        active = active;
        base = t;
        entries = entries;
        log = log;
        backed = subst (Backed s u) log_long (subst (λ z. Backed z u (length u)) same h);
      }

-- an array whose front was written over is as long as it was
pub whole_array : {X : Type 0} (ys arr : List X) (c : ℕ) → length arr ≡ 448 → length ys ≡ c → c ≤ 448 → length (ys ++ drop c arr) ≡ 448
whole_array ys arr c a b l = omega (arith, length-append ys (drop c arr), length-drop c arr)

-- Two stages one after the other: m₀ is the chip at first, m₁ after the first stage.
pub moved : (m₀ m₁ : Pages) → Quiet m₀ m₁ → shown m₁ ≡ shown m₀
moved m₀ m₁ q = fun_ext (quiet_shown m₀ m₁ q)

-- what recovery of a chip of the right size answers, by that size
pub restores : (m n : Pages) (size blocks : ℕ) (r : Result Restored Fault) → size ≡ m.size → geometry_refusal size ≡ None → blocks ≡ size
    → Stage (λ f. Recovered (data_pages blocks) (shown m) (found_of f)) (Failed (data_pages blocks) (shown m)) r n → Restores m r n
restores m n size blocks (Ok f) e none is (on, h) =
    (ap geometry_refusal (sym e) ∙ none, on, subst (λ b. Recovered (data_pages b) (shown m) (found_of f)) (is ∙ e) h)
restores m n size blocks (Err f) e none is (inl x) = inr (ap geometry_refusal (sym e) ∙ none, inl x)
restores m n size blocks (Err f) e none is (inr (on, h)) =
    inr (ap geometry_refusal (sym e) ∙ none, inr (on, subst (λ b. Failed (data_pages b) (shown m) f) (is ∙ e) h))
