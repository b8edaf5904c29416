-- Data pages that back the table, one look after another.
use Rattle.std.proofs.Common.{◌≡◌, ℕ, suc, ◌+◌, ◌<◌, true, ◌⊎◌, List, length, eqb, false, MatchBool, ◌≢◌, Option, Some, None, sym, ap, ◌∙◌, subst, inl, inr, arith, below_more}
use Rattle.std.specs.Option.{option_eq}
use Rattle.std.proofs.lemmas.Bool.{eq-eqb, eqb-true, cases_Bool, false≢true}
use Rattle.device.specs.declared.faults.Fault.{Fault}
use Rattle.device.specs.declared.faults.Refusal.TheVariants.{Breach}
use Rattle.device.specs.declared.places.DiskAddress.{DiskAddress}
use Rattle.device.specs.Chips.{Note, State, Pages, data_page_at}
use Rattle.device.specs.Chips.State.{held}
use Rattle.layout.specs.Pages.{data_note}
use Rattle.table.specs.Tables.{Table, entry_at, marked_at}
use Rattle.recovery.specs.Recovering.{cache_fault, IsData, Backed}
use Rattle.recovery.specs.Looking.{shown, Quiet, Lost}
use Rattle.recovery.specs.DataPages.{Backs, Unbacked}
use Rattle.recovery.proofs.Lookwise.{quiet_shown}

-- a held page is a data page of the address if that is the address in its note
pub data_or_not : (page : State) (note : Note) (bytes : List ℕ) (a : DiskAddress) (o : Option DiskAddress) → page ≡ held note bytes
    → elim o as (λ x. Type 0) [ Some b ↦ note ≡ data_note b.0 | None ↦ ((b : DiskAddress) → note ≢ data_note b.0) ] → MatchBool (option_eq (λ x y. eqb x.0 y.0) o (Some a)) (IsData page a.0) (IsData page a.0 → ⊥)
data_or_not page note bytes a (Some b) e is = go (cases_Bool (eqb b.0 a.0))
  where
    note_of : (m k : Note) (xs ys : List ℕ) → held m xs ≡ held k ys → m ≡ k
    note_of m k xs ys e = cc

    go : (eqb b.0 a.0 ≡ true) ⊎ (eqb b.0 a.0 ≡ false) → MatchBool (eqb b.0 a.0) (IsData page a.0) (IsData page a.0 → ⊥)
    go (inl same) = rw same (bytes, e ∙ ap (λ n. held n bytes) (is ∙ ap data_note (eqb-true b.0 a.0 same)))
    go (inr apart) = rw apart (λ d.
        let two : data_note b.0 ≡ data_note a.0 = sym is ∙ note_of note (data_note a.0) bytes d.0 (sym e ∙ d.1) in
        false≢true (sym apart ∙ eq-eqb b.0 a.0 (ap (λ n. n.2) two)))
data_or_not page note bytes a None e no_one = λ d. no_one a (note_of note (data_note a.0) bytes d.0 (sym e ∙ d.1))
  where
    note_of : (m k : Note) (xs ys : List ℕ) → held m xs ≡ held k ys → m ≡ k
    note_of m k xs ys e = cc

module _ (m m₁ : Pages) (t : Table) (i : ℕ) (q : Quiet m m₁) (before : Backed (shown m) t i) where
  pub backed_more : Backs (shown m₁ (data_page_at i)) (entry_at t i) → Backed (shown m) t (i + 1)
  backed_more here =
      below_more (λ k. marked_at t k ≡ true → IsData (shown m (data_page_at k)) (entry_at t k).address.0) i before
      (λ h. subst (λ page. IsData page (entry_at t i).address.0) (quiet_shown m m₁ q (data_page_at i)) (here h))

  pub backed_stuck : (m₂ : Pages) (u : Table) (f : Fault) → t ≡ u → i < length t
      → Lost f m₂ ⊎ ((m₂.on ≡ true) × ((f ≡ cache_fault (data_page_at i) Breach) × (Backs (shown m₁ (data_page_at i)) (entry_at t i) → ⊥)))
      → Lost f m₂ ⊎ ((m₂.on ≡ true) × Unbacked (shown m) u f)
  backed_stuck m₂ u f same l (inl x) = inl x
  backed_stuck m₂ u f same l (inr (on, (e, not))) =
      let stuck : Backed (shown m) t (suc i) → ⊥ =
      λ h. not (λ mark. subst (λ page. IsData page (entry_at t i).address.0) (sym (quiet_shown m m₁ q (data_page_at i))) (h i (omega arith) mark)) in
      inr (on, subst (λ v. Unbacked (shown m) v f) same (i, e, l, before, stuck))

-- a held page whose note is of no data page
pub not_data : (page : State) (note : Note) (bytes : List ℕ) (a : DiskAddress) → page ≡ held note bytes → ((b : DiskAddress) → note ≡ data_note b.0 → ⊥)
    → IsData page a.0 → ⊥
not_data page note bytes a e no_one (xs, d) = no_one a (note_of note (data_note a.0) bytes xs (sym e ∙ d))
  where
    note_of : (m k : Note) (xs ys : List ℕ) → held m xs ≡ held k ys → m ≡ k
    note_of m k xs ys e = cc
