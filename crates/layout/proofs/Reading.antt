-- Reading an entry page into its part of a table.
use Rattle.std.proofs.Common.{◌≡◌, ℕ, ◌+◌, ◌-◌, ◌*◌, ◌≤◌, min, List, length, Ok, Err, sym, refl, ap, ◌∙◌, subst, arith}
use native.Mathlib.Nat.{min-le_left}
use borrow.Rule.Slice.PartMut.{put_mid}
use Rattle.std.specs.List.{AllByRecursion}
use Rattle.std.proofs.lemmas.Slice.{take-put_mid_below, drop-put_mid}
use Rattle.device.specs.Chips.{Note}
use Rattle.layout.specs.declared.entries.Entry.{Entry}
use Rattle.layout.specs.declared.notes.Malformed.{Malformed}
use Rattle.layout.specs.Entries.{entry_bytes, ProperEntry}
use Rattle.layout.specs.Pages.{cells_page, entry_note, entry_part, EntriesRead}
use Rattle.layout.proofs.Partwise.{part_length, part_after}

-- a table whose part ends at e
module _ (note : Note) (page : List ℕ) (j : ℕ) (table : List Entry) (e : ℕ) (inside : 64 * j ≤ length table) (within : e ≤ length table) (size : e - 64 * j ≡ min 64 (length table - 64 * j)) where
  pub entries_got : (part : List Entry) → length part ≡ e - 64 * j → note ≡ entry_note j → AllByRecursion ProperEntry part → page ≡ cells_page entry_bytes part
      → EntriesRead note page j table (Ok tt) (put_mid (64 * j) (e - 64 * j) table part)
  entries_got part long is ps f =
      let here : entry_part (put_mid (64 * j) (e - 64 * j) table part) j ≡ part = part_after table (64 * j) e inside within size part long in
      let short : e - 64 * j ≤ 64 = subst (λ z. z ≤ 64) (sym size) (min-le_left 64 (length table - 64 * j)) in (
        is,
        f ∙ ap (cells_page entry_bytes) (sym here),
        subst (AllByRecursion ProperEntry) (sym here) ps,
        take-put_mid_below (64 * j) (e - 64 * j) table part (64 * j) (omega arith) inside,
        drop-put_mid (64 * j) (e - 64 * j) table part (64 * j + 64) (omega arith) inside long,
      )

  pub entries_not : ((xs : List Entry) → length xs ≡ e - 64 * j → AllByRecursion ProperEntry xs → page ≡ cells_page entry_bytes xs → ⊥) → (m : Malformed)
      → EntriesRead note page j table (Err m) table
  entries_not none m = (refl, λ t l ps n p. none (entry_part t j) (part_length table (64 * j) e inside within size t l) ps p)

-- a note by its three numbers
pub note_is : (note : Note) (kind count address : ℕ) → note.0 ≡ kind → note.1 ≡ count → note.2 ≡ address → note ≡ (kind, count, address)
note_is (k, c, a) kind count address e f g = cc
