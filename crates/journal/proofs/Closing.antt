-- The trailer of the area that is not active, and the sync behind it: from then on the chip holds the table of that area.
use Rattle.std.proofs.Common.{◌≡◌, ℕ, ◌+◌, ◌%◌, ◌<◌, ◌≤◌, true, false, List, length, Ok, Err, Result, sym, ap, ◌∙◌, subst, ⊎_elim, arith}
use Rattle.std.proofs.lemmas.Bool.{eq-eqb, ne_eqb, cases_eq}
use Rattle.device.specs.declared.faults.Fault.{Fault}
use Rattle.device.specs.Cells.{reads, is_unsettled}
use Rattle.device.specs.Cells.Cell.{settled}
use Rattle.device.specs.Chips.{Note, Pages, Programs, Syncs}
use Rattle.device.specs.Chips.State.{blank, held}
use Rattle.device.proofs.Chipwise.{chip_reads}
use Rattle.layout.specs.declared.areas.Area.{Area}
use Rattle.layout.specs.Geometry.{other_area, trailer_at}
use Rattle.layout.specs.Pages.{trailer_note, trailer_data}
use Rattle.table.specs.Tables.{Table, ProperTable}
use Rattle.recovery.specs.Looking.{shown}
use Rattle.crash.specs.Crash.{Holds, HoldsEither, SettledBacked, SettledEntries, BlankFrom}
use Rattle.crash.proofs.Cuts.{safe_steps, first_small}
use Rattle.journal.specs.Notes.{in_area, next_number}
use Rattle.journal.specs.Steps.{AllSettled, Landing, Beside, TakesOver, with_trailer}
use Rattle.journal.proofs.Allowed.{program_fails, program_beside, sync_beside, sync_settles}
use Rattle.journal.proofs.AreaBlocks.{area_outside}
use Rattle.journal.proofs.Settledness.{settled_reads, program_allowed, sync_lost}

-- what the calls leave of the chip
pub record Closed (D : ℕ) (active : Area) (number : ℕ) (m : Pages) (r : Result (Unit {0}) Fault) (n : Pages) : Type 0 where
  pub done : Landing m (with_trailer D active number (shown m)) r n
  pub others : Beside active m n
  pub over : TakesOver D active number r m n

module _ (D : ℕ) (small : D ≤ 448) (active : Area) (number : ℕ) (m : Pages) (on : m.on ≡ true) (large : 12 ≤ m.size) (all : AllSettled m)
    (free : shown m (trailer_at D (other_area active)) ≡ blank) (p : ℕ) (note : Note) (bytes : List ℕ) (at : p ≡ trailer_at D (other_area active))
    (noted : note ≡ trailer_note D number) (filled : bytes ≡ trailer_data (other_area active) D) (n : Pages) where
  was_blank : m.cell p ≡ settled blank
  was_blank = settled_reads (m.cell p) (all p) ∙ ap settled (ap (shown m) at ∙ free)

  -- the call that the laws speak of, under the number that follows that of the active area
  with_next : (k : ℕ) → number ≡ next_number k → (r : Result (Unit {0}) Fault) → Programs m p note bytes r n
      → Programs m (trailer_at D (other_area active)) (trailer_note D ((k + 1) % 3)) (trailer_data (other_area active) D) r n
  with_next k e r call =
      subst (λ q. Programs m q (trailer_note D ((k + 1) % 3)) (trailer_data (other_area active) D) r n) at
      (subst (λ z. Programs m p z (trailer_data (other_area active) D) r n) (noted ∙ ap (trailer_note D) e) (subst (λ z. Programs m p note z r n) filled call))

  either : (r : Result (Unit {0}) Fault) → Programs m p note bytes r n
      → (k : ℕ) (t u : Table) → Holds D m active k t → k < 3 → number ≡ next_number k → length u ≡ D → ProperTable u → SettledEntries D m (other_area active) u
      → BlankFrom D m (other_area active) 0 → SettledBacked D m u → HoldsEither D n active k t (other_area active) number u
  either r call k t u h few e long ok entries log backed =
      subst (λ z. HoldsEither D n active k t (other_area active) z u) (sym e)
      ((safe_steps D small).other_trailer m n active k t u r h few long ok entries log backed (with_next k e r call))

  -- a page outside the area is not the trailer
  outside : (q : ℕ) → in_area (other_area active) q ≡ false → q ≡ p → ⊥
  outside q out i = area_outside (other_area active) q out (omega arith) (omega arith)

  beside : (r : Result (Unit {0}) Fault) → Programs m p note bytes r n → Beside active m n
  beside r call q out = program_beside m n p note bytes r call q (outside q out) (all q)

  pub closing_fails : (f : Fault) → length bytes ≡ 512 → Programs m p note bytes (Err f) n → Closed D active number m (Err f) n
  closing_fails f whole call = record {
    done = program_fails m n p note bytes f (program_allowed m p (length bytes) on whole (omega (arith, first_small (other_area active))) was_blank) call;
    others = beside (Err f) call;
    over = either (Err f) call;
  }

  -- the sync behind the trailer
  module _ (call : Programs m p note bytes (Ok tt) n) (n' : Pages) where
    sync_others : (r : Result (Unit {0}) Fault) → Syncs n r n' → Beside active m n'
    sync_others r sync q out = let same = beside (Ok tt) call q out in sync_beside n n' r sync q (ap is_unsettled same ∙ all q) ∙ same

    reads_closed : (q : ℕ) → shown n q ≡ with_trailer D active number (shown m) q
    reads_closed q = ⊎_elim
        (λ (i : q ≡ trailer_at D (other_area active)).
        rw (eq-eqb q (trailer_at D (other_area active)) i)
        (ap (shown n) (i ∙ sym at) ∙ (chip_reads.after_program m n p note bytes call).0 ∙ ap (λ z. held z bytes) noted ∙ ap (held (trailer_note D number)) filled))
        (λ (ne : q ≡ trailer_at D (other_area active) → ⊥).
        rw (ne_eqb q (trailer_at D (other_area active)) ne) (ap reads (program_beside m n p note bytes (Ok tt) call q (λ i. ne (i ∙ at)) (all q))))
        (cases_eq q (trailer_at D (other_area active)))

    pub closing_ends : (r : Result (Unit {0}) Fault) → Syncs n r n' → Closed D active number m r n'
    closing_ends (Ok tt) sync = record {
      done = record { power = sync.2.power; size = sync.2.size ∙ call.2.size; cells = λ q. sync_settles n n' sync q ∙ ap settled (reads_closed q) };
      others = sync_others (Ok tt) sync;
      over = λ k t u h few e long ok entries log backed.
          subst (λ z. Holds D n' (other_area active) z u) (sym e)
          ((safe_steps D small).trailer_committed m n n' active k t u h few long ok entries log backed (with_next k e (Ok tt) call) sync);
    }
    closing_ends (Err f) sync =
        let lost = sync_lost n n' f call.2.power sync in
        record {
          done = record { lost = lost.lost; size = lost.size ∙ call.2.size };
          others = sync_others (Err f) sync;
          over = λ k t u h few e long ok entries log backed.
              (safe_steps D small).either_syncing n n' active k t (other_area active) number u (Err f) (either (Ok tt) call k t u h few e long ok entries log backed) sync;
        }
