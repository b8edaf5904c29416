-- What a form leaves: the checkpoint of an empty table on a chip that is otherwise blank.
use Rattle.std.proofs.Common.{◌≡◌, ℕ, ◌+◌, ◌<◌, ◌≤◌, true, false, ltb, leb, [], sym, ap, ◌∙◌, subst, ⊎_elim, arith}
use lib.ListN.{length-replicate}
use Rattle.std.proofs.lemmas.List.{get_or_past, get_or-replicate}
use Rattle.std.proofs.lemmas.Bool.{le-ltb, cases_lt, and_right, and_parts, ltb-true, true≢false}
use Rattle.device.specs.Cells.{reads}
use Rattle.device.specs.Cells.Cell.{settled}
use Rattle.device.specs.Chips.{Pages}
use Rattle.device.specs.Chips.State.{blank}
use Rattle.layout.specs.declared.areas.Area.TheVariants.{One, Two}
use Rattle.layout.specs.Geometry.{data_pages, trailer_at, first_page}
use Rattle.table.specs.Tables.{Table, empty, empty_table, entry_at, marked_at, has_mark, address_fits, clash, ProperTable}
use Rattle.table.proofs.Tablewise.{proper_from}
use Rattle.recovery.specs.Looking.{shown}
use Rattle.crash.specs.Crash.{Holds}
use Rattle.crash.proofs.Cuts.{safe_steps}
use Rattle.journal.specs.Notes.{Noted, in_area, formed}
use Rattle.journal.specs.Ready.{Ready}
use Rattle.journal.specs.Steps.{AllBlank, Formed, Lands, with_entries, with_trailer}
use Rattle.journal.proofs.Checkpointing.{written, outside_there, fresh_ready, entries_closed, log_closed, trailer_closed, elsewhere_closed}
use Rattle.journal.proofs.Settledness.{lands_settled}

-- The empty table

pub empties : (D i : ℕ) → entry_at (empty_table D) i ≡ empty
empties D i =
    ⊎_elim
    (λ (l : i < D). get_or-replicate D i empty empty l)
    (λ (l : D ≤ i). get_or_past (empty_table D) i empty (omega (arith, length-replicate D empty)))
    (cases_lt i D)

pub none_marked : (D i : ℕ) → marked_at (empty_table D) i ≡ true → ⊥
none_marked D i h = true≢false (sym (subst (λ e. has_mark e.mark ≡ true) (empties D i) h))

pub empty_proper : (D : ℕ) → ProperTable (empty_table D)
empty_proper D =
    proper_from (empty_table D) (λ i. ap address_fits (empties D i))
    (λ i j h. absurd (true≢false (sym (subst (λ e. clash e (entry_at (empty_table D) j) ≡ true) (empties D i) h))))

pub noted_formed : (D : ℕ) (t : Table) → t ≡ empty_table D → record { table = t; staged = []; area = One; number = 0; next = 0 } ≡ formed D
noted_formed D t e = ap noted_of e
  where
    noted_of : Table → Noted
    noted_of z = record { table = z; staged = []; area = One; number = 0; next = 0 }

-- a page of area one is not past the areas
pub first_area : (p : ℕ) → in_area One p ≡ true → p < 32
first_area p h = ltb-true p (first_page One + 32) (and_parts (leb (first_page One) p) (ltb p (first_page One + 32)) h).1

pub past_first : (p : ℕ) → 32 ≤ p → in_area One p ≡ false
past_first p l = and_right (leb (first_page One) p) (ltb p (first_page One + 32)) (le-ltb p (first_page One + 32) l)

module _ (D : ℕ) (m m₁ m₂ m₃ : Pages) (enough : 12 ≤ m.size) (few : m.size ≤ 64) (large : D ≡ data_pages m.size) (wiped : AllBlank m m₁)
    (two : Lands m₁ (with_entries D Two (empty_table D) (shown m₁)) m₂) (three : Lands m₂ (with_trailer D Two 0 (shown m₂)) m₃) where
  small : D ≤ 448
  small = omega (arith, large, few)

  size : m₃.size ≡ m.size
  size = three.size ∙ two.size ∙ wiped.size

  other_blank : m₃.cell (trailer_at D Two) ≡ settled blank
  other_blank =
      elsewhere_closed D small Two (empty_table D) m₁ m₂ two 0 m₃ three (trailer_at D Two) (λ e. omega arith)
      ∙ ap settled (ap reads (two.cells (trailer_at D Two))
      ∙ outside_there D small Two (empty_table D) (shown m₁) (trailer_at D Two) (past_first (trailer_at D Two) (omega arith))
      ∙ wiped.blanks (trailer_at D Two) (omega arith))

  holds : Holds D m₃ One 0 (empty_table D)
  holds =
      (safe_steps D small).formed m₃ One 0 (empty_table D) (omega arith) (length-replicate D empty) (empty_proper D)
      (entries_closed D small Two (empty_table D) m₁ m₂ two 0 m₃ three) (trailer_closed D small Two (empty_table D) m₁ m₂ two 0 m₃ three) other_blank
      (log_closed D small Two (empty_table D) m₁ m₂ two 0 m₃ three) (λ i _ marked. absurd (none_marked D i marked))

  ready : Ready D m₃ (formed D) (empty_table D)
  ready =
      fresh_ready D m₃ One 0 (empty_table D) three.power (omega (arith, size)) (omega (arith, size)) (large ∙ ap data_pages (sym size)) holds (omega arith)
      (length-replicate D empty) (empty_proper D) (log_closed D small Two (empty_table D) m₁ m₂ two 0 m₃ three) (lands_settled m₂ m₃ _ three)
      (λ i _ marked. absurd (none_marked D i marked))

  pub all_formed : (v : Noted) → v ≡ formed D → Formed D m m₃ v
  all_formed v e = record {
    power = three.power;
    size = size;
    settled_all = lands_settled m₂ m₃ _ three;
    cells = λ p l.
        ap reads (three.cells p)
        ∙ written D small Two (empty_table D) 0 (λ q. blank) (shown m₁) (shown m₂) p (λ _. wiped.blanks p l) (ap reads (two.cells p));
    noted = e;
    ready = subst (λ z. Ready D m₃ z z.table) (sym e) ready;
  }
