-- A small run of records from an empty table of 32 pages, all of the address 5.
use Rattle.std.specs.Prelude.{◌≡◌, ℕ, [], ◌∷◌, Some, None, Option}
use Rattle.device.specs.declared.places.DataPage.{DataPage}
use Rattle.device.specs.declared.places.DiskAddress.{DiskAddress}
use Rattle.layout.specs.declared.entries.Mark.TheVariants.{Dirty}
use Rattle.layout.specs.declared.records.Record.{Record}
use Rattle.layout.specs.declared.records.Record.TheVariants.{PutClean, PutDirty, Drop}
use Rattle.table.specs.Tables.{Table, entry, empty, empty_table, entry_at, mark_of, replayed}

abbrev page : ℕ → DataPage
page n = record { 0 = n }

abbrev five : DiskAddress
five = record { 0 = 5 }

abbrev pub drop_five : Record
drop_five = Drop five

abbrev pub after_puts : Option Table
after_puts = replayed (Some (empty_table 32)) (PutClean (page 0) five ∷ PutDirty (page 1) five ∷ [])

abbrev pub after_drop : Option Table
after_drop = replayed after_puts (drop_five ∷ [])

-- page 1 holds the address dirty, and page 0 holds nothing
abbrev pub AfterTwoPuts : Option Table → Type 0
AfterTwoPuts None = ⊥
AfterTwoPuts (Some t) = (mark_of t 5 ≡ Dirty) × (entry_at t 1 ≡ entry Dirty 5) × (entry_at t 0 ≡ empty)
