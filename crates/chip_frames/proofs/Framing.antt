-- A whole frame written in three parts: its state, its note, and its data.
use Rattle.std.proofs.Common.{◌≡◌, ℕ, ◌+◌, ◌-◌, ◌/◌, ◌%◌, ◌<◌, ◌≤◌, ◌⊎◌, List, [], ◌∷◌, length, get_or, set, take, drop, refl, sym, ap, ◌∙◌, inl, inr, mod-eq_of_lt, arith, rules}
use native.Mathlib.Nat.{div-div-eq-div-mul}
use borrow.Rule.Slice.PartMut.{put_mid}
use Rattle.std.proofs.lemmas.List.{places, length-set, get_or-set_same, get_or-set_other, drop-take, drop-drop}
use Rattle.std.proofs.lemmas.Slice.{between-put_mid, overwrites}
use Rattle.chip_frames.specs.Frames.{be32, note_at, data_at}

-- An element of a list with a part written over: ys, of k, at a.
module _ (a k : ℕ) (xs ys : List ℕ) (inside : a + k ≤ length xs) (whole : length ys ≡ k) where
  pub mid_below : (n : ℕ) → n < a → get_or (put_mid a k xs ys) n 0 ≡ get_or xs n 0
  mid_below n h = search (rules, places)

  pub mid_above : (n : ℕ) → a + k ≤ n → get_or (put_mid a k xs ys) n 0 ≡ get_or xs n 0
  mid_above n h = search (rules, places)

  pub mid_within : (n j : ℕ) → n ≡ a + j → j < k → get_or (put_mid a k xs ys) n 0 ≡ get_or ys j 0
  mid_within n j e h = search (rules, places)

  pub mid_length : length (put_mid a k xs ys) ≡ length xs
  mid_length = search (rules, places)

-- the four bytes of an address, most significant first, give it back
pub be32_back : (n : ℕ) → n < 4294967296 → be32 (n / 16777216 % 256) (n / 65536 % 256) (n / 256 % 256) (n % 256) ≡ n
be32_back n h =
    let top : n / 16777216 < 256 = omega arith in
    let e₃ : n / 16777216 % 256 ≡ n / 16777216 = mod-eq_of_lt top in
    omega (arith, div-div-eq-div-mul n 256 256, div-div-eq-div-mul n 65536 256)

-- a frame's data are its last 512 bytes
pub data_is_part : (xs : List ℕ) (i : ℕ) → data_at xs i ≡ drop 8 (take 520 (drop i xs))
unfolding data_at
data_is_part xs i = sym (drop-take 8 512 (drop i xs) ∙ ap (take 512) (drop-drop 8 i xs))

-- a frame of 520 bytes with another state, six bytes of a note and data, of n bytes
module _ (frame head bytes : List ℕ) (state n : ℕ) (f : length frame ≡ 520) (e : n ≡ 512) (h : length head ≡ 6) (b : length bytes ≡ 512) where
  abbrev pub filled : List ℕ
  filled = put_mid 8 n (put_mid 2 6 (set frame 0 state) head) bytes

  noted : List ℕ
  noted = put_mid 2 6 (set frame 0 state) head

  set_length : length (set frame 0 state) ≡ 520
  set_length = length-set frame 0 state ∙ f

  noted_length : length (put_mid 2 6 (set frame 0 state) head) ≡ 520
  noted_length = let s = set_length in mid_length 2 6 (set frame 0 state) head (omega arith) h ∙ s

  pub filled_length : length filled ≡ 520
  filled_length = let s = noted_length in mid_length 8 n (put_mid 2 6 (set frame 0 state) head) bytes (omega arith) (omega arith) ∙ s

  before_data : (k : ℕ) → k < 8 → get_or filled k 0 ≡ get_or (put_mid 2 6 (set frame 0 state) head) k 0
  before_data k l = let s = noted_length in mid_below 8 n (put_mid 2 6 (set frame 0 state) head) bytes (omega arith) (omega arith) k l

  pub filled_state : get_or filled 0 0 ≡ state
  filled_state =
      let s = set_length in
      before_data 0 (omega arith) ∙ (mid_below 2 6 (set frame 0 state) head (omega arith) h 0 (omega arith) ∙ get_or-set_same frame 0 state 0 (omega arith))

  pub filled_fate : get_or filled 1 0 ≡ get_or frame 1 0
  filled_fate =
      let s = set_length in
      before_data 1 (omega arith) ∙ (mid_below 2 6 (set frame 0 state) head (omega arith) h 1 (omega arith) ∙ get_or-set_other frame 0 1 state 0 (omega arith))

  pub filled_head : (j : ℕ) → j < 6 → get_or filled (2 + j) 0 ≡ get_or head j 0
  filled_head j l =
      let s = set_length in
      before_data (2 + j) (omega arith) ∙ mid_within 2 6 (set frame 0 state) head (omega arith) h (2 + j) j refl l

  pub filled_data : drop 8 filled ≡ bytes
  filled_data = let s = noted_length in search (rules, overwrites)

-- the frame at i of a list, of k bytes, written so
module _ (xs ys : List ℕ) (i k : ℕ) (e : k ≡ 520) (inside : i + 520 ≤ length xs) (y : length ys ≡ 520) where
  abbrev written : List ℕ
  written = put_mid i k xs ys

  pub written_byte : (m j : ℕ) → m ≡ i + j → j < 520 → get_or written m 0 ≡ get_or ys j 0
  written_byte m j h l = mid_within i k xs ys (omega arith) (omega arith) m j h (omega arith)

  pub written_note : (kind count n : ℕ) (head : List ℕ) → n < 4294967296 → ((j : ℕ) → j < 6 → get_or ys (2 + j) 0 ≡ get_or head j 0)
      → head ≡ kind ∷ count ∷ (n / 16777216 % 256) ∷ (n / 65536 % 256) ∷ (n / 256 % 256) ∷ (n % 256) ∷ [] → note_at written i ≡ (kind, count, n)
  unfolding note_at
  written_note kind count n head l same h =
      let at : (j : ℕ) → j < 6 → get_or written (i + (2 + j)) 0 ≡ get_or (kind ∷ count ∷ (n / 16777216 % 256) ∷ (n / 65536 % 256) ∷ (n / 256 % 256) ∷ (n % 256) ∷ []) j 0 = (λ j t. written_byte (i + (2 + j)) (2 + j) refl (omega arith) ∙ (same j t ∙ ap (λ z. get_or z j 0) h)) in
      rw (at 0 (omega arith), at 1 (omega arith), at 2 (omega arith), at 3 (omega arith), at 4 (omega arith), at 5 (omega arith), be32_back n l)

  pub written_data : data_at written i ≡ drop 8 ys
  written_data =
      let d : i + 520 - i ≡ 520 = omega arith in
      let t = between-put_mid i k xs ys (i + 520) (omega arith) (omega arith) in
      data_is_part written i ∙ ap (drop 8) (rw d at t)

  pub written_others : (n : ℕ) → (n < i) ⊎ (i + 520 ≤ n) → get_or written n 0 ≡ get_or xs n 0
  written_others n (inl l) = mid_below i k xs ys (omega arith) (omega arith) n l
  written_others n (inr l) = mid_above i k xs ys (omega arith) (omega arith) n (omega arith)
