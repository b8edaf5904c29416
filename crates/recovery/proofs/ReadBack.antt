-- A written checkpoint and log are read back as the table that they stand for.
use Rattle.std.proofs.Common.{◌≡◌, ℕ, zero, suc, ◌*◌, ◌≤◌, Some, None, Option, sym, refl, ap, ◌∙◌, subst, inl, arith}
use Rattle.std.proofs.lemmas.List.{take_all}
use Rattle.std.specs.List.{AllByRecursion}
use Rattle.device.specs.Chips.{State}
use Rattle.layout.specs.declared.areas.Area.{Area}
use Rattle.layout.specs.Entries.{ProperEntry}
use Rattle.layout.specs.Geometry.{entry_pages, log_pages}
use Rattle.table.specs.Tables.{Table, replayed}
use Rattle.table.proofs.Changing.{replayed_append, replayed_breach}
use Rattle.recovery.specs.Recovering.{Entered, LogStep, Logged, Backed, Recovered}
use Rattle.recovery.specs.RoundTrip.{LogPage, page_state, page_records, ProperPage, records_upto, next_after, next_upto, Written, ReadsBack}
use Rattle.recovery.specs.RoundTrip.LogPage.{unwritten, lost, written}
use Rattle.recovery.proofs.OneAnswer.{finds_answer}

some_same : (t u : Table) → Some t ≡ Some u → u ≡ t
some_same t u e = cc

page_step : (p : LogPage) (j : ℕ) (v : Table) (n : ℕ) (u : Table) → ProperPage p → replayed (Some v) (page_records p) ≡ Some u → LogStep (page_state p) j v n u (next_after p j n)
page_step unwritten j v n u ok e = (some_same v u e, refl)
page_step lost j v n u ok e = (some_same v u e, refl)
page_step (written records) j v n u ok e = (records, ok, refl, refl, e, refl)

module _ (D : ℕ) (s : ℕ → State) (area : Area) (n : ℕ) (t : Table) (log : ℕ → LogPage) (w : Written D s area n t log) where
  logged_written : (j : ℕ) → j ≤ log_pages D → (u : Table) → replayed (Some t) (records_upto log j) ≡ Some u → Logged D s area j t u (next_upto log j)
  logged_written zero l u e = (some_same t u e, refl)
  logged_written (suc j) l u e =
      go (replayed (Some t) (records_upto log j)) refl (logged_written j (omega arith)) (sym (replayed_append (Some t) (records_upto log j) (page_records (log j))) ∙ e)
    where
      go : (o : Option Table) → replayed (Some t) (records_upto log j) ≡ o
          → ((v : Table) → replayed (Some t) (records_upto log j) ≡ Some v → Logged D s area j t v (next_upto log j))
          → replayed (replayed (Some t) (records_upto log j)) (page_records (log j)) ≡ Some u → Logged D s area (suc j) t u (next_upto log (suc j))
      go None f before k =
          let z : None ≡ Some u = sym (replayed_breach (page_records (log j))) ∙ ap (λ o. replayed o (page_records (log j))) (sym f) ∙ k in
          grind arith
      go (Some v) f before k = (
        v,
        next_upto log j,
        before v f,
        subst (λ x. LogStep x j v (next_upto log j) u (next_upto log (suc j))) (sym (w.pages j (omega arith)))
            (page_step (log j) j v (next_upto log j) u (w.fit j (omega arith)) (ap (λ o. replayed o (page_records (log j))) (sym f) ∙ k)),
      )

  entered_written : Entered D s area (entry_pages D) t
  entered_written = record {
    long = w.long;
    pages = w.entries;
    proper = subst (AllByRecursion ProperEntry) (sym (take_all (64 * entry_pages D) t (omega (arith, w.long)))) w.proper.entries;
    distinct = λ i j a _ _ x y. w.proper.distinct i j a x y;
  }

  recovered_written : (u : Table) → replayed (Some t) (records_upto log (log_pages D)) ≡ Some u → Backed s u D
      → Recovered D s (record { table = u; area = area; number = n; next = next_upto log (log_pages D) })
  recovered_written u e backed = record {
    active = record { own = record { small = w.small; is = w.trailer }; other = inl w.other };
    base = t;
    entries = entered_written;
    log = logged_written (log_pages D) (omega arith) u e;
    backed = backed;
  }

pub reads_back : ReadsBack
reads_back D few s area n t log u r w e backed h = finds_answer D few s _ r (recovered_written D s area n t log w u e backed) h
