-- What the bytes of a chip image mean. A page has a frame of 520 bytes: state, fate, note (kind, count, address), data.
use Rattle.std.specs.Prelude.{◌≡◌, ℕ, zero, suc, ◌+◌, ◌*◌, ◌/◌, ◌%◌, ◌<◌, ◌≤◌, Bool, true, false, cond, ◌⊎◌, List, length, take, drop, ◌==◌, ◌≢◌, nat_lt, slice_index}
use Rattle.device.specs.Cells.{Cell}
use Rattle.device.specs.Cells.Cell.{settled, unsettled}
use Rattle.device.specs.Chips.{Note, State, Pages, block_of}
use Rattle.device.specs.Chips.State.{blank, torn, held}

abbrev pub be32 : ℕ → ℕ → ℕ → ℕ → ℕ
be32 a b c d = a * 16777216 + b * 65536 + c * 256 + d

-- the state byte and the fate byte of a page's frame
abbrev pub state_at : List ℕ → ℕ → ℕ
state_at xs p = slice_index xs (520 * p)

abbrev pub fate_at : List ℕ → ℕ → ℕ
fate_at xs p = slice_index xs (520 * p + 1)

-- the note of the frame that begins at a byte, and its data
unfoldable pub note_at : List ℕ → ℕ → Note
note_at xs i =
    (slice_index xs (i + 2), slice_index xs (i + 3), be32 (slice_index xs (i + 4)) (slice_index xs (i + 5)) (slice_index xs (i + 6)) (slice_index xs (i + 7)))

unfoldable pub data_at : List ℕ → ℕ → List ℕ
data_at xs i = take 512 (drop (i + 8) xs)

-- The states: 0 blank; 1 held; 2 torn; 3 held, unsettled, was blank; 4 blank, unsettled, was held; 5 blank, unsettled, was torn. h is the held state
-- that the frame's note and data make. A number past the list does not come in: an image that has one is refused.
abbrev pub decode : ℕ → State → Cell State
decode zero h = settled blank
decode (suc zero) h = settled h
decode (suc (suc zero)) h = settled torn
decode (suc (suc (suc zero))) h = unsettled blank h
decode (suc (suc (suc (suc zero)))) h = unsettled h blank
decode (suc (suc (suc (suc (suc zero))))) h = unsettled torn blank
decode (suc (suc (suc (suc (suc (suc n)))))) h = settled torn

abbrev pub page_of : List ℕ → ℕ → Cell State
page_of xs p = decode (state_at xs p) (held (note_at xs (520 * p)) (data_at xs (520 * p)))

-- eight frames make an erase block, and past the last one pages are blank
abbrev pub blocks_in : List ℕ → ℕ
blocks_in xs = length xs / 4160

abbrev pub page_in : List ℕ → ℕ → Cell State
page_in xs q = cond (nat_lt q (8 * blocks_in xs)) (page_of xs q) (settled blank)

abbrev pub image_pages : Bool → List ℕ → Pages
image_pages on xs = record { on = on; size = blocks_in xs; cell = page_in xs }

-- an image serves if it has 1 to 64 whole erase blocks
pub record Whole (xs : List ℕ) : Type 0 where
  pub whole : length xs ≡ 4160 * blocks_in xs
  pub some : 0 < blocks_in xs
  pub few : blocks_in xs ≤ 64

-- a state byte once its page is settled as it now reads
abbrev pub settled_state : ℕ → ℕ
settled_state zero = 0
settled_state (suc zero) = 1
settled_state (suc (suc zero)) = 2
settled_state (suc (suc (suc zero))) = 1
settled_state (suc (suc (suc (suc zero)))) = 0
settled_state (suc (suc (suc (suc (suc zero))))) = 0
settled_state (suc (suc (suc (suc (suc (suc n)))))) = 2

-- a state byte once its page is erased
abbrev pub erased_state : ℕ → ℕ
erased_state zero = 0
erased_state (suc zero) = 4
erased_state (suc (suc zero)) = 5
erased_state (suc (suc (suc zero))) = 3
erased_state (suc (suc (suc (suc zero)))) = 4
erased_state (suc (suc (suc (suc (suc zero))))) = 5
erased_state (suc (suc (suc (suc (suc (suc n)))))) = 5

-- after a cut: fate 0 is the state from before, 1 the new one, any other is torn
abbrev pub by_fate : ℕ → ℕ → ℕ → ℕ
by_fate zero old new = old
by_fate (suc zero) old new = new
by_fate (suc (suc n)) old new = 2

abbrev pub cut_state : ℕ → ℕ → ℕ
cut_state zero fate = 0
cut_state (suc zero) fate = 1
cut_state (suc (suc zero)) fate = 2
cut_state (suc (suc (suc zero))) fate = by_fate fate 0 1
cut_state (suc (suc (suc (suc zero)))) fate = by_fate fate 1 0
cut_state (suc (suc (suc (suc (suc zero))))) fate = by_fate fate 2 0
cut_state (suc (suc (suc (suc (suc (suc n)))))) fate = 2

abbrev pub unsettled_state : ℕ → Bool
unsettled_state zero = false
unsettled_state (suc zero) = false
unsettled_state (suc (suc zero)) = false
unsettled_state (suc (suc (suc zero))) = true
unsettled_state (suc (suc (suc (suc zero)))) = true
unsettled_state (suc (suc (suc (suc (suc zero))))) = true
unsettled_state (suc (suc (suc (suc (suc (suc n)))))) = false

-- Only state bytes change: that of each frame p is then f p, and every other byte is as it was.
pub record Restated (xs : List ℕ) (f : ℕ → ℕ) (ys : List ℕ) : Type 0 where
  pub states : (p : ℕ) → p < length xs / 520 → state_at ys p ≡ f p
  pub others : (k : ℕ) → (k % 520 ≢ 0) → slice_index ys k ≡ slice_index xs k

abbrev pub settling : List ℕ → ℕ → ℕ
settling xs p = settled_state (state_at xs p)

abbrev pub erasing : List ℕ → ℕ → ℕ → ℕ
erasing xs b p = cond (block_of p == b) (erased_state (state_at xs p)) (state_at xs p)

abbrev pub cutting : List ℕ → ℕ → ℕ
cutting xs p = cut_state (state_at xs p) (fate_at xs p)

-- The frame of page p becomes held, unsettled, was blank, with this note and data. Its fate and every other frame are as they were.
pub record Framed (xs : List ℕ) (p : ℕ) (note : Note) (bytes : List ℕ) (ys : List ℕ) : Type 0 where
  pub state : state_at ys p ≡ 3
  pub fate : fate_at ys p ≡ fate_at xs p
  pub spare : note_at ys (520 * p) ≡ note
  pub content : data_at ys (520 * p) ≡ bytes
  pub others : (k : ℕ) → (k < 520 * p) ⊎ (520 * p + 520 ≤ k) → slice_index ys k ≡ slice_index xs k

-- the first k frames have states of the list
abbrev pub Listed : List ℕ → ℕ → Type 0
Listed xs k = (p : ℕ) → p < k → state_at xs p ≤ 5

-- frame p is the first whose state is out of the list
pub record FirstBad (xs : List ℕ) (p : ℕ) : Type 0 where
  pub inside : p < length xs / 520
  pub bad : 5 < state_at xs p
  pub before : Listed xs p
