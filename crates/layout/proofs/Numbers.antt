-- Numbers in bytes and back.
use Rattle.std.specs.Prelude.{◌≡◌, ℕ, ◌+◌, ◌*◌, ◌/◌, ◌%◌, ◌<◌, List, [], ◌∷◌, length, Some, slice_index}
use Rattle.std.proofs.Common.{sym, ap, ◌∙◌, arith}
use Rattle.std.proofs.lemmas.List.{drop_more, drop_all}
use Rattle.layout.specs.Bytes.{two_bytes, four_bytes, Decodes}

-- two and four bytes as they are read
abbrev pub two_number : ℕ → ℕ → ℕ
two_number b c = b * 256 + c

abbrev pub four_number : ℕ → ℕ → ℕ → ℕ → ℕ
four_number a b c d = a * 16777216 + b * 65536 + c * 256 + d

pub two_in : (b c : ℕ) (rest : List ℕ) → b < 256 → c < 256 → b ∷ c ∷ rest ≡ two_bytes (two_number b c) rest
two_in b c rest hb hc =
    let eb : (b * 256 + c) / 256 % 256 ≡ b = omega arith in
    let ec : (b * 256 + c) % 256 ≡ c = omega arith in
    cc

pub four_in : (a b c d : ℕ) → a < 256 → b < 256 → c < 256 → d < 256 → a ∷ b ∷ c ∷ d ∷ [] ≡ four_bytes (four_number a b c d)
four_in a b c d ha hb hc hd =
    let ea : (a * 16777216 + b * 65536 + c * 256 + d) / 16777216 % 256 ≡ a = omega arith in
    let eb : (a * 16777216 + b * 65536 + c * 256 + d) / 65536 % 256 ≡ b = omega arith in
    let ec : (a * 16777216 + b * 65536 + c * 256 + d) / 256 % 256 ≡ c = omega arith in
    let ed : (a * 16777216 + b * 65536 + c * 256 + d) % 256 ≡ d = omega arith in
    cc

pub four_small : (a b c d : ℕ) → a < 256 → b < 256 → c < 256 → d < 256 → four_number a b c d < 4294967296
four_small a b c d ha hb hc hd = omega arith

-- eight bytes, by their places
pub eight_listed : (xs : List ℕ) → length xs ≡ 8
    → xs ≡ slice_index xs 0 ∷ slice_index xs 1 ∷ slice_index xs 2 ∷ slice_index xs 3 ∷ slice_index xs 4 ∷ slice_index xs 5 ∷ slice_index xs 6 ∷ slice_index xs 7 ∷ []
eight_listed xs len =
    let d0 = drop_more xs 0 0 (omega arith) in
    let d1 = drop_more xs 1 0 (omega arith) in
    let d2 = drop_more xs 2 0 (omega arith) in
    let d3 = drop_more xs 3 0 (omega arith) in
    let d4 = drop_more xs 4 0 (omega arith) in
    let d5 = drop_more xs 5 0 (omega arith) in
    let d6 = drop_more xs 6 0 (omega arith) in
    let d7 = drop_more xs 7 0 (omega arith) in
    let d8 = drop_all 8 xs (omega arith) in
    cc

-- a value that the bytes are those of, where values with the same bytes are the same, is what they decode to
pub decodes_some : {X : Type 0} (Proper : X → Type 0) (bytes : X → List ℕ) → ((x y : X) → Proper x → Proper y → bytes x ≡ bytes y → x ≡ y)
    → (xs : List ℕ) (x : X) → Proper x → xs ≡ bytes x → Decodes Proper bytes xs (Some x)
decodes_some Proper bytes same xs x p e = (p, e, λ y q f. same y x q p (sym f ∙ e))

-- Eight bytes as they are read: the last four as one number, and the two before them.
module _ (xs : List ℕ) (len : length xs ≡ 8) (small : (i : ℕ) → slice_index xs i < 256) (a : ℕ) (ha : a ≡ four_number (slice_index xs 4) (slice_index xs 5) (slice_index xs 6) (slice_index xs 7)) where
  pub tail_read : xs ≡ slice_index xs 0 ∷ slice_index xs 1 ∷ slice_index xs 2 ∷ slice_index xs 3 ∷ four_bytes a
  tail_read =
      let e = eight_listed xs len in
      let f = four_in (slice_index xs 4) (slice_index xs 5) (slice_index xs 6) (slice_index xs 7) (small 4) (small 5) (small 6) (small 7) in
      rw ha (e ∙ ap (λ z. slice_index xs 0 ∷ slice_index xs 1 ∷ slice_index xs 2 ∷ slice_index xs 3 ∷ z) f)
