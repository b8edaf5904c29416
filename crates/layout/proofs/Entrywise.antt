-- Entries and their bytes: what is read is what was written.
use Rattle.std.specs.Prelude.{◌≡◌, ℕ, ◌<◌, List, length, Some, None, Option, slice_index, slice_index_or}
use Rattle.std.proofs.Common.{sym, ap}
use Rattle.layout.specs.declared.entries.Entry.{Entry}
use Rattle.layout.specs.Bytes.{four_bytes, Decodes}
use Rattle.layout.specs.Entries.{entry_bytes, ProperEntry, EntryOf}
use Rattle.layout.specs.Apart.{four_same, address_small, same_entry}
use Rattle.layout.proofs.Numbers.{four_number, tail_read, decodes_some}

-- eight bytes as an entry, by its mark's number and its address
module _ (xs : List ℕ) (len : length xs ≡ 8) (small : (i : ℕ) → slice_index xs i < 256) (h1 : slice_index_or xs 1 0 ≡ 0) (h2 : slice_index_or xs 2 0 ≡ 0) (h3 : slice_index_or xs 3 0 ≡ 0) (a : ℕ) (ha : a ≡ four_number (slice_index xs 4) (slice_index xs 5) (slice_index xs 6) (slice_index xs 7)) (low : a < 4294967296) where
  pub entry_decodes : (r : Option Entry) → EntryOf (slice_index xs 0) a r → Decodes ProperEntry entry_bytes xs r
  entry_decodes (Some e) (m, n, p) =
      let t = tail_read xs len small a ha in
      let f : xs ≡ entry_bytes e = cc in
      decodes_some ProperEntry entry_bytes same_entry xs e p f
  entry_decodes None none = λ y p f.
      let t = tail_read xs len small a ha in
      let g : four_bytes y.address.0 ≡ four_bytes a = cc in
      none y p (sym (ap (λ z. slice_index z 0) f)) (four_same y.address.0 a (address_small y.mark y.address.0 p) low g)
