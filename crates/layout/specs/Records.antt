-- A log record's eight bytes: its kind, a zero, the data page, the disk address.
use Rattle.std.specs.Prelude.{ℕ, ◌<◌, List, ◌∷◌}
use Rattle.layout.specs.declared.records.Record.{Record}
use Rattle.layout.specs.declared.records.Record.TheVariants.{PutClean, PutDirty, Drop, MarkClean}
use Rattle.layout.specs.Bytes.{two_bytes, four_bytes}

-- a record of this kind
abbrev pub record_cell : ℕ → ℕ → ℕ → List ℕ
record_cell kind page address = kind ∷ 0 ∷ two_bytes page (four_bytes address)

abbrev pub record_bytes : Record → List ℕ
record_bytes (PutClean page address) = record_cell 1 page.0 address.0
record_bytes (PutDirty page address) = record_cell 2 page.0 address.0
record_bytes (Drop address) = record_cell 3 0 address.0
record_bytes (MarkClean address) = record_cell 4 0 address.0

-- a record's numbers fit their bytes
abbrev pub ProperRecord : Record → Type 0
ProperRecord (PutClean page address) = (page.0 < 65536) × (address.0 < 4294967296)
ProperRecord (PutDirty page address) = (page.0 < 65536) × (address.0 < 4294967296)
ProperRecord (Drop address) = address.0 < 4294967296
ProperRecord (MarkClean address) = address.0 < 4294967296
