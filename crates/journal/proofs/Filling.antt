-- The entry pages of a table, programmed one by one into the area that is not active, and the sync behind them.
use Rattle.std.proofs.Common.{◌≡◌, ℕ, ◌+◌, ◌-◌, ◌<◌, ◌≤◌, true, false, List, length, None, Ok, Err, Result, refl, ap, ◌∙◌, subst, ⊎_elim, arith}
use Rattle.std.proofs.lemmas.Bool.{lt-ltb, le-ltb, cases_Bool, cases_eq, cases_lt}
use Rattle.device.specs.declared.faults.Fault.{Fault}
use Rattle.device.specs.Cells.{reads, is_unsettled}
use Rattle.device.specs.Cells.Cell.{settled}
use Rattle.device.specs.Chips.{Note, Pages, Programs, program_refusal, Syncs}
use Rattle.device.specs.Chips.State.{blank, held}
use Rattle.device.proofs.Chipwise.{chip_reads}
use Rattle.layout.specs.declared.areas.Area.{Area}
use Rattle.layout.specs.Geometry.{first_page, other_area, entry_pages, entry_page_at}
use Rattle.layout.specs.Laws.{entry_page}
use Rattle.layout.specs.Pages.{entry_note, entry_data}
use Rattle.table.specs.Tables.{Table}
use Rattle.recovery.specs.Looking.{shown}
use Rattle.crash.specs.Crash.{Holds}
use Rattle.crash.proofs.Cuts.{safe_steps, first_small}
use Rattle.journal.specs.Notes.{in_area}
use Rattle.journal.specs.Steps.{AllSettled, Landing, Beside, with_entries}
use Rattle.journal.proofs.Allowed.{program_fails, program_beside, sync_beside, sync_settles}
use Rattle.journal.proofs.AreaBlocks.{area_inside, area_outside}
use Rattle.journal.proofs.Settledness.{settled_reads, program_allowed, sync_lost}

-- what the chip holds in the active area for D data pages, it still holds
abbrev Keeps : ℕ → Area → Pages → Pages → Type 0
Keeps D active m n = (number : ℕ) (u : Table) → Holds D m active number u → Holds D n active number u

-- the first j pages of the other area are the entry pages of the table, and every other page is as it was
pub record Filling (D : ℕ) (active : Area) (t : Table) (m : Pages) (j : ℕ) (n : Pages) : Type 0 where
  pub power : n.on ≡ true
  pub size : n.size ≡ m.size
  pub put : (p : ℕ) → first_page (other_area active) ≤ p → p < first_page (other_area active) + j → shown n p ≡ entry_page t (p - first_page (other_area active))
  pub rest : (p : ℕ) → (first_page (other_area active) ≤ p → p < first_page (other_area active) + j → ⊥) → n.cell p ≡ m.cell p
  pub held : Keeps D active m n

-- what the calls leave of the chip
pub record Filled (D : ℕ) (active : Area) (t : Table) (m : Pages) (r : Result (Unit {0}) Fault) (n : Pages) : Type 0 where
  pub done : Landing m (with_entries D active t (shown m)) r n
  pub others : Beside active m n
  pub held : Keeps D active m n

pub filling_none : (D : ℕ) (active : Area) (t : Table) (m : Pages) → m.on ≡ true → Filling D active t m 0 m
filling_none D active t m on = record {
  power = on;
  size = refl;
  put = λ p a b. absurd (omega arith);
  rest = λ p _. refl;
  held = λ number u h. h;
}

module _ (D : ℕ) (small : D ≤ 448) (active : Area) (t : Table) (m : Pages) (all : AllSettled m) (free : (p : ℕ) → in_area (other_area active) p ≡ true → shown m p ≡ blank) where
  abbrev first : ℕ
  first = first_page (other_area active)

  module _ (j : ℕ) (n : Pages) (c : Filling D active t m j n) where
    -- a page that is as it was is settled
    as_was : (p : ℕ) → (first ≤ p → p < first + j → ⊥) → is_unsettled (n.cell p) ≡ false
    as_was p out = ap is_unsettled (c.rest p out) ∙ all p

    module _ (few : j < entry_pages D) (large : 12 ≤ m.size) (p : ℕ) (note : Note) (bytes : List ℕ) (at : p ≡ entry_page_at (other_area active) j) (noted : note ≡ entry_note j)
        (filled : bytes ≡ entry_data t j) (whole : length bytes ≡ 512) (n' : Pages) where
      was_blank : n.cell p ≡ settled blank
      was_blank = c.rest p (λ x y. omega arith) ∙ settled_reads (m.cell p) (all p) ∙ ap settled (free p inside)
        where
          inside : in_area (other_area active) p ≡ true
          inside = ⊎_elim (λ i. i) (λ o. absurd (area_outside (other_area active) p o (omega arith) (omega arith))) (cases_Bool (in_area (other_area active) p))

      page_free : program_refusal n p (length bytes) ≡ None
      page_free = program_allowed n p (length bytes) c.power whole (omega (arith, first_small (other_area active), c.size)) was_blank

      step_held : (r : Result (Unit {0}) Fault) → Programs n p note bytes r n' → Keeps D active m n'
      step_held r call number u h =
          (safe_steps D small).other_entry n n' active number u j note bytes r (c.held number u h) few (subst (λ q. Programs n q note bytes r n') at call)

      pub filling_more : Programs n p note bytes (Ok tt) n' → Filling D active t m (j + 1) n'
      filling_more call = record {
        power = call.2.power;
        size = call.2.size ∙ c.size;
        put = λ q x y. ⊎_elim
            (λ (i : q ≡ p).
            let k : j ≡ q - first = omega arith in
            ap (shown n') i ∙ (chip_reads.after_program n n' p note bytes call).0 ∙ ap (λ z. held z bytes) noted ∙ ap (held (entry_note j)) filled ∙ ap (entry_page t) k)
            (λ (ne : q ≡ p → ⊥). (chip_reads.after_program n n' p note bytes call).1 q ne ∙ c.put q x (omega arith))
            (cases_eq q p);
        rest = λ q out.
            let before : first ≤ q → q < first + j → ⊥ = λ x y. out x (omega arith) in
            program_beside n n' p note bytes (Ok tt) call q (λ i. out (omega arith) (omega arith)) (as_was q before) ∙ c.rest q before;
        held = step_held (Ok tt) call;
      }

      pub filling_fails : (f : Fault) → Programs n p note bytes (Err f) n' → Filled D active t m (Err f) n'
      filling_fails f call =
          let lost = program_fails n n' p note bytes f page_free call in
          record {
            done = record { lost = lost.lost; size = lost.size ∙ c.size };
            others = λ q out.
                let away : first ≤ q → q < first + 32 → ⊥ = area_outside (other_area active) q out in
                let before : first ≤ q → q < first + j → ⊥ = λ x y. away x (omega arith) in
                program_beside n n' p note bytes (Err f) call q (λ i. away (omega arith) (omega arith)) (as_was q before) ∙ c.rest q before;
            held = step_held (Err f) call;
          }

  -- the sync behind the entry pages
  module _ (n : Pages) (c : Filling D active t m (entry_pages D) n) (n' : Pages) where
    sync_held : (r : Result (Unit {0}) Fault) → Syncs n r n' → Keeps D active m n'
    sync_held r call number u h = (safe_steps D small).syncing n n' active number u r (c.held number u h) call

    apart : (p : ℕ) → in_area (other_area active) p ≡ false → first ≤ p → p < first + entry_pages D → ⊥
    apart p out x y = area_outside (other_area active) p out x (omega arith)

    sync_others : (r : Result (Unit {0}) Fault) → Syncs n r n' → Beside active m n'
    sync_others r call p out = sync_beside n n' r call p (as_was (entry_pages D) n c p (apart p out)) ∙ c.rest p (apart p out)

    reads_filled : (p : ℕ) → shown n p ≡ with_entries D active t (shown m) p
    reads_filled p = ⊎_elim
        (λ (i : in_area (other_area active) p ≡ true).
        let k = area_inside (other_area active) p i in
        ⊎_elim
        (λ (l : p - first < entry_pages D). rw (i, lt-ltb (p - first) (entry_pages D) l) (c.put p k.0 (omega arith)))
        (λ (l : entry_pages D ≤ p - first). rw (i, le-ltb (p - first) (entry_pages D) l) (ap reads (c.rest p (λ x y. omega arith)) ∙ free p i))
        (cases_lt (p - first) (entry_pages D)))
        (λ (o : in_area (other_area active) p ≡ false). rw o (ap reads (c.rest p (apart p o))))
        (cases_Bool (in_area (other_area active) p))

    pub filling_ends : (r : Result (Unit {0}) Fault) → Syncs n r n' → Filled D active t m r n'
    filling_ends (Ok tt) call = record {
      done = record { power = call.2.power; size = call.2.size ∙ c.size; cells = λ p. sync_settles n n' call p ∙ ap settled (reads_filled p) };
      others = sync_others (Ok tt) call;
      held = sync_held (Ok tt) call;
    }
    filling_ends (Err f) call =
        let lost = sync_lost n n' f c.power call in
        record {
          done = record { lost = lost.lost; size = lost.size ∙ c.size };
          others = sync_others (Err f) call;
          held = sync_held (Err f) call;
        }
