-- A table entry's eight bytes: its mark, three zeros, the disk address.
use Rattle.std.specs.Prelude.{◌≡◌, ℕ, ◌<◌, List, ◌∷◌, Some, None, Option, ◌≢◌}
use Rattle.layout.specs.declared.entries.Entry.{Entry}
use Rattle.layout.specs.declared.entries.Mark.{Mark}
use Rattle.layout.specs.declared.entries.Mark.TheVariants.{Empty, Clean, Dirty}
use Rattle.layout.specs.Bytes.{four_bytes}

abbrev pub mark_number : Mark → ℕ
mark_number Empty = 0
mark_number Clean = 1
mark_number Dirty = 2

abbrev pub entry_bytes : Entry → List ℕ
entry_bytes entry = mark_number entry.mark ∷ 0 ∷ 0 ∷ 0 ∷ four_bytes entry.address.0

abbrev pub empty_entry : Entry
empty_entry = record { mark = Empty; address = record { 0 = 0 } }

-- an entry without a mark has the address 0
abbrev pub AddressFits : Mark → ℕ → Type 0
AddressFits Empty address = address ≡ 0
AddressFits Clean address = address < 4294967296
AddressFits Dirty address = address < 4294967296

abbrev pub ProperEntry : Entry → Type 0
ProperEntry entry = AddressFits entry.mark entry.address.0

-- the proper entry with this mark's number and this address, or that there is none
abbrev pub EntryOf : ℕ → ℕ → Option Entry → Type 0
EntryOf mark address (Some e) = (mark_number e.mark ≡ mark) × (e.address.0 ≡ address) × ProperEntry e
EntryOf mark address None = (y : Entry) → ProperEntry y → mark_number y.mark ≡ mark → y.address.0 ≢ address
