-- Entries and records with the same bytes are the same: what the law `apart` of a `Cell` asks of them.
use Rattle.std.specs.Prelude.{◌≡◌, ℕ, ◌/◌, ◌%◌, ◌<◌, slice_index, refl}
use Rattle.std.proofs.Common.{ap, ap₂, arith}
use Rattle.std.proofs.Math.Nat.{div-div-eq-div-mul}
use Rattle.device.specs.declared.places.DataPage.{DataPage}
use Rattle.device.specs.declared.places.DiskAddress.{DiskAddress}
use Rattle.layout.specs.declared.entries.Entry.{Entry}
use Rattle.layout.specs.declared.entries.Mark.{Mark}
use Rattle.layout.specs.declared.entries.Mark.TheVariants.{Empty, Clean, Dirty}
use Rattle.layout.specs.declared.records.Record.{Record}
use Rattle.layout.specs.declared.records.Record.TheVariants.{PutClean, PutDirty, Drop, MarkClean}
use Rattle.layout.specs.Bytes.{four_bytes}
use Rattle.layout.specs.Entries.{mark_number, entry_bytes, AddressFits, ProperEntry}
use Rattle.layout.specs.Records.{record_cell, record_bytes, ProperRecord}

-- numbers with the same bytes are the same
pub two_same : (x y : ℕ) → x < 65536 → y < 65536 → x / 256 % 256 ≡ y / 256 % 256 → x % 256 ≡ y % 256 → x ≡ y
two_same x y hx hy e f = omega arith

pub four_same : (x y : ℕ) → x < 4294967296 → y < 4294967296 → four_bytes x ≡ four_bytes y → x ≡ y
four_same x y hx hy e =
    let ea : x / 16777216 % 256 ≡ y / 16777216 % 256 = cc in
    let eb : x / 65536 % 256 ≡ y / 65536 % 256 = cc in
    let ec : x / 256 % 256 ≡ y / 256 % 256 = cc in
    let ed : x % 256 ≡ y % 256 = cc in
    omega (arith, div-div-eq-div-mul x 256 256, div-div-eq-div-mul x 65536 256, div-div-eq-div-mul y 256 256, div-div-eq-div-mul y 65536 256)

-- Entries

abbrev entry_of : Mark → ℕ → Entry
entry_of m a = record { mark = m; address = record { 0 = a } }

mark_same : (m n : Mark) → mark_number m ≡ mark_number n → m ≡ n
mark_same Empty Empty e = refl
mark_same Empty Clean e = absurd (omega arith)
mark_same Empty Dirty e = absurd (omega arith)
mark_same Clean Empty e = absurd (omega arith)
mark_same Clean Clean e = refl
mark_same Clean Dirty e = absurd (omega arith)
mark_same Dirty Empty e = absurd (omega arith)
mark_same Dirty Clean e = absurd (omega arith)
mark_same Dirty Dirty e = refl

pub address_small : (m : Mark) (a : ℕ) → AddressFits m a → a < 4294967296
address_small Empty a h = omega arith
address_small Clean a h = h
address_small Dirty a h = h

pub same_entry : (x y : Entry) → ProperEntry x → ProperEntry y → entry_bytes x ≡ entry_bytes y → x ≡ y
same_entry x y hx hy e =
    let t : four_bytes x.address.0 ≡ four_bytes y.address.0 = cc in
    ap₂ entry_of (mark_same x.mark y.mark (ap (λ z. slice_index z 0) e))
    (four_same x.address.0 y.address.0 (address_small x.mark x.address.0 hx) (address_small y.mark y.address.0 hy) t)

-- Records

abbrev page_of : ℕ → DataPage
page_of n = record { 0 = n }

abbrev address_of : ℕ → DiskAddress
address_of n = record { 0 = n }

page_same : (k : ℕ) (p q a b : ℕ) → p < 65536 → q < 65536 → record_cell k p a ≡ record_cell k q b → page_of p ≡ page_of q
page_same k p q a b hp hq e =
    ap page_of (two_same p q hp hq (ap (λ z. slice_index z 2) e) (ap (λ z. slice_index z 3) e))

address_same : (k : ℕ) (p q a b : ℕ) → a < 4294967296 → b < 4294967296 → record_cell k p a ≡ record_cell k q b → address_of a ≡ address_of b
address_same k p q a b ha hb e = let t : four_bytes a ≡ four_bytes b = cc in ap address_of (four_same a b ha hb t)

pub same_record : (r s : Record) → ProperRecord r → ProperRecord s → record_bytes r ≡ record_bytes s → r ≡ s
same_record (PutClean p a) (PutClean q b) (hp, ha) (hq, hb) e =
    ap₂ PutClean (page_same 1 p.0 q.0 a.0 b.0 hp hq e) (address_same 1 p.0 q.0 a.0 b.0 ha hb e)
same_record (PutClean p a) (PutDirty q b) hr hs e = absurd (omega (arith, ap (λ z. slice_index z 0) e))
same_record (PutClean p a) (Drop b) hr hs e = absurd (omega (arith, ap (λ z. slice_index z 0) e))
same_record (PutClean p a) (MarkClean b) hr hs e = absurd (omega (arith, ap (λ z. slice_index z 0) e))
same_record (PutDirty p a) (PutClean q b) hr hs e = absurd (omega (arith, ap (λ z. slice_index z 0) e))
same_record (PutDirty p a) (PutDirty q b) (hp, ha) (hq, hb) e =
    ap₂ PutDirty (page_same 2 p.0 q.0 a.0 b.0 hp hq e) (address_same 2 p.0 q.0 a.0 b.0 ha hb e)
same_record (PutDirty p a) (Drop b) hr hs e = absurd (omega (arith, ap (λ z. slice_index z 0) e))
same_record (PutDirty p a) (MarkClean b) hr hs e = absurd (omega (arith, ap (λ z. slice_index z 0) e))
same_record (Drop a) (PutClean q b) hr hs e = absurd (omega (arith, ap (λ z. slice_index z 0) e))
same_record (Drop a) (PutDirty q b) hr hs e = absurd (omega (arith, ap (λ z. slice_index z 0) e))
same_record (Drop a) (Drop b) hr hs e = ap Drop (address_same 3 0 0 a.0 b.0 hr hs e)
same_record (Drop a) (MarkClean b) hr hs e = absurd (omega (arith, ap (λ z. slice_index z 0) e))
same_record (MarkClean a) (PutClean q b) hr hs e = absurd (omega (arith, ap (λ z. slice_index z 0) e))
same_record (MarkClean a) (PutDirty q b) hr hs e = absurd (omega (arith, ap (λ z. slice_index z 0) e))
same_record (MarkClean a) (Drop b) hr hs e = absurd (omega (arith, ap (λ z. slice_index z 0) e))
same_record (MarkClean a) (MarkClean b) hr hs e = ap MarkClean (address_same 4 0 0 a.0 b.0 hr hs e)
