-- Worked examples of the formats and of replay, in one statement.
use Rattle.std.specs.Prelude.{◌≡◌, ℕ, [], ◌∷◌, Some, None}
use Rattle.layout.specs.declared.entries.Mark.TheVariants.{Dirty}
use Rattle.layout.specs.declared.records.Record.{Record}
use Rattle.layout.specs.declared.records.Record.TheVariants.{PutClean, PutDirty, Drop}
use Rattle.layout.specs.Geometry.{Sizes}
use Rattle.layout.specs.Records.{record_bytes}
use Rattle.table.specs.Tables.{Table, entry, empty, empty_table, entry_at, mark_of, replayed}
use Rattle.recovery.specs.Answer.{ZeroFollowsTwo, SameNumberRefused}

abbrev pub put_clean : ℕ → ℕ → Record
put_clean p a = PutClean (record { 0 = p }) (record { 0 = a })

abbrev pub put_dirty : ℕ → ℕ → Record
put_dirty p a = PutDirty (record { 0 = p }) (record { 0 = a })

abbrev pub drop_of : ℕ → Record
drop_of a = Drop (record { 0 = a })

-- 12 erase blocks give 32 data pages, 1 entry page and 30 log pages, and 64 give 448, 7 and 24. Of trailers 2 and 0, 0 is active; trailers 1 and 1 are
-- refused. A put dirty of data page 3 and address 258 has its eight bytes. A put clean and a put dirty of one address leave the second page dirty, a
-- drop leaves it empty, and a second drop is a breach.
pub record WorkedExamples : Type 0 where
  pub smallest : Sizes 12 32 1 30
  pub largest : Sizes 64 448 7 24
  pub newer : ZeroFollowsTwo
  pub equal : SameNumberRefused
  pub bytes : record_bytes (put_dirty 3 258) ≡ 2 ∷ 0 ∷ 0 ∷ 3 ∷ 0 ∷ 0 ∷ 1 ∷ 2 ∷ []
  pub after_puts : (t : Table) → replayed (Some (empty_table 32)) (put_clean 0 5 ∷ put_dirty 1 5 ∷ []) ≡ Some t
      → (mark_of t 5 ≡ Dirty) × (entry_at t 1 ≡ entry Dirty 5) × (entry_at t 0 ≡ empty)
  pub some_puts : (t : Table) × (replayed (Some (empty_table 32)) (put_clean 0 5 ∷ put_dirty 1 5 ∷ []) ≡ Some t)
  pub after_drop : replayed (Some (empty_table 32)) (put_clean 0 5 ∷ put_dirty 1 5 ∷ drop_of 5 ∷ []) ≡ Some (empty_table 32)
  pub second_drop : replayed (Some (empty_table 32)) (put_clean 0 5 ∷ put_dirty 1 5 ∷ drop_of 5 ∷ drop_of 5 ∷ []) ≡ None
