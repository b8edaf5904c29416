-- Records and their bytes: what is read is what was written.
use Rattle.std.specs.Prelude.{◌≡◌, ℕ, ◌<◌, List, length, slice_index, slice_index_or}
use Rattle.layout.specs.Bytes.{four_bytes}
use Rattle.layout.specs.Records.{record_cell}
use Rattle.layout.proofs.Numbers.{two_number, four_number, two_in, tail_read}

-- eight bytes as a record of their kind
module _ (xs : List ℕ) (len : length xs ≡ 8) (small : (i : ℕ) → slice_index xs i < 256) (k : ℕ) (hk : slice_index_or xs 0 0 ≡ k) (hz : slice_index_or xs 1 0 ≡ 0) (a : ℕ) (ha : a ≡ four_number (slice_index xs 4) (slice_index xs 5) (slice_index xs 6) (slice_index xs 7)) where
  pub put_read : (p : ℕ) → p ≡ two_number (slice_index xs 2) (slice_index xs 3) → xs ≡ record_cell k p a
  put_read p hp =
      let e = tail_read xs len small a ha in
      let f = two_in (slice_index xs 2) (slice_index xs 3) (four_bytes a) (small 2) (small 3) in
      cc

  pub drop_read : slice_index_or xs 2 0 ≡ 0 → slice_index xs 3 ≡ 0 → xs ≡ record_cell k 0 a
  drop_read h2 h3 = let e = tail_read xs len small a ha in cc
