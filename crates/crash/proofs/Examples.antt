-- A settled checkpoint is held, and the small chips on which an order loses a block.
use Rattle.std.proofs.Common.{◌≡◌, ℕ, zero, suc, true, false, List, [], ◌∷◌, map, length, replicate, Ok, sym, refl, ap, ◌∙◌, subst, inl, arith}
use Rattle.std.proofs.lemmas.Bool.{ne_eqb, true≢false}
use Rattle.std.specs.List.{AllByRecursion}
use Rattle.device.specs.Cells.{Cell}
use Rattle.device.specs.Cells.Cell.{settled, unsettled}
use Rattle.device.specs.Chips.{State, Pages, data_page_at, Erases, erased_block, unsettled_in}
use Rattle.device.specs.Chips.State.{blank, held}
use Rattle.layout.specs.declared.areas.Area.TheVariants.{One}
use Rattle.layout.specs.declared.entries.Entry.{Entry}
use Rattle.layout.specs.Entries.{ProperEntry}
use Rattle.layout.specs.Geometry.{entry_page_at, trailer_at, log_page_at}
use Rattle.layout.specs.Pages.{cells_page, data_note}
use Rattle.table.specs.Tables.{Table, empty, empty_table, entry_at, marked_at, holds, emptied, ProperTable}
use Rattle.crash.specs.Crash.{Holds, SettledBacked, BlankFrom, SettledEntries}
use Rattle.crash.specs.Orders.{put_seven}
use Rattle.crash.specs.Examples.{small_chip, with_seven, OneSyncExample, EraseFirstExample}
use Rattle.crash.proofs.Cuts.{settled_holds}
use Rattle.crash.proofs.Orders.{one_sync_loses, erase_first_loses, seven_proper}

-- entries without marks
abbrev Nothing : List Entry → Type 0
Nothing ts = AllByRecursion (λ e. e ≡ empty) ts

nothing_here : (n : ℕ) → Nothing (replicate n empty)
nothing_here zero = tt
nothing_here (suc n) = (refl, nothing_here n)

nothing_left : (n : ℕ) → Nothing (map (emptied 7) (replicate n empty))
nothing_left zero = tt
nothing_left (suc n) = (refl, nothing_left n)

nothing_at : (ts : List Entry) (i : ℕ) → Nothing ts → entry_at ts i ≡ empty
nothing_at [] i h = refl
nothing_at (t ∷ ts) zero (e, h) = e
nothing_at (t ∷ ts) (suc i) (e, h) = nothing_at ts i h

nothing_proper : (ts : List Entry) → Nothing ts → AllByRecursion ProperEntry ts
nothing_proper [] h = tt
nothing_proper (t ∷ ts) (e, h) = (subst ProperEntry (sym e) refl, nothing_proper ts h)

nothing_held : (ts : List Entry) (i a : ℕ) → Nothing ts → holds a (entry_at ts i) ≡ true → ⊥
nothing_held ts i a h e = true≢false (sym e ∙ ap (holds a) (nothing_at ts i h))

nothing_marked : (ts : List Entry) (i : ℕ) → Nothing ts → marked_at ts i ≡ false
nothing_marked ts i h = ap (λ e. marked_at (e ∷ []) 0) (nothing_at ts i h)

empty_proper : ProperTable (empty_table 32)
empty_proper = record { entries = nothing_proper (empty_table 32) (nothing_here 32); distinct = λ i j a x y. absurd (nothing_held (empty_table 32) i a (nothing_here 32) x) }

seven_table : ProperTable with_seven
seven_table = record { entries = (omega arith, nothing_proper (map (emptied 7) (replicate 31 empty)) (nothing_left 31)); distinct = apart }
  where
    apart : (i j a : ℕ) → holds a (entry_at with_seven i) ≡ true → holds a (entry_at with_seven j) ≡ true → i ≡ j
    apart zero zero a x y = refl
    apart zero (suc j) a x y = absurd (nothing_held (map (emptied 7) (replicate 31 empty)) j a (nothing_left 31) y)
    apart (suc i) j a x y = absurd (nothing_held (map (emptied 7) (replicate 31 empty)) i a (nothing_left 31) x)

module _ (t : Table) (first : Cell State) where
  entries_there : SettledEntries 32 (small_chip t first) One t
  entries_there zero l = refl
  entries_there (suc j) l = absurd (omega arith)

  log_free : BlankFrom 32 (small_chip t first) One 0
  log_free k a b =
      rw (
        ne_eqb (log_page_at 32 One k) (entry_page_at One 0) (λ e. omega arith),
        ne_eqb (log_page_at 32 One k) (trailer_at 32 One) (λ e. omega arith),
        ne_eqb (log_page_at 32 One k) (data_page_at 0) (λ e. omega arith),
      )

  chip_holds : length t ≡ 32 → ProperTable t → SettledBacked 32 (small_chip t first) t → Holds 32 (small_chip t first) One 0 t
  chip_holds long ok backed =
      settled_holds 32 (omega arith) (small_chip t first) One 0 t (omega arith) long ok entries_there refl refl log_free backed

pub one_sync_example : OneSyncExample
unfolding cells_page
one_sync_example bytes =
    let first : Cell State = unsettled blank (held (data_note 7) bytes) in
    let there : Holds 32 (small_chip (empty_table 32) first) One 0 (empty_table 32) =
    chip_holds (empty_table 32) first refl empty_proper (λ i l k. absurd (true≢false (sym k ∙ nothing_marked (empty_table 32) i (nothing_here 32)))) in (
      there,
      one_sync_loses 32 (omega arith) (small_chip (empty_table 32) first) One 0 (empty_table 32) with_seven 0 0 (held (data_note 7) bytes) put_seven there (omega arith)
          (log_free (empty_table 32) first) seven_proper refl (omega arith) refl refl refl refl,
    )

pub erase_first_example : EraseFirstExample
unfolding unsettled_in
erase_first_example bytes =
    let m : Pages = small_chip with_seven (settled (held (data_note 7) bytes)) in
    let there : Holds 32 m One 0 with_seven = chip_holds with_seven (settled (held (data_note 7) bytes)) refl seven_table backed in
    let after : Pages = record { on = true; size = 12; cell = erased_block m 8 } in
    let call : Erases m 8 (Ok tt) after = (refl, tt, record { power = refl; size = refl; cells = λ q. inl refl }) in
    (there, (after, call, erase_first_loses 32 m after One 0 with_seven 0 there (omega arith) refl call))
  where
    backed : SettledBacked 32 (small_chip with_seven (settled (held (data_note 7) bytes))) with_seven
    backed zero l k = (bytes, refl)
    backed (suc i) l k = absurd (true≢false (sym k ∙ nothing_marked (map (emptied 7) (replicate 31 empty)) i (nothing_left 31)))
