-- The frames of an image as chunks, and a frame written in its place.
use Rattle.std.proofs.Common.{◌≡◌, ℕ, zero, suc, ◌+◌, ◌*◌, ◌<◌, ◌≤◌, Bool, true, false, ◌⊎◌, Option, Some, None, MatchOption, List, [], length, get_or, take, drop, set, refl, ap, sym, subst, ◌∙◌, inl, inr, ⊎_elim, arith, rules}
use borrow.Rule.Slice.PartMut.{put_mid}
use Rattle.std.specs.List.{HoldsAt, AllWithin}
use Rattle.std.specs.Simd.{first_chunks}
use Rattle.std.proofs.lemmas.List.{places, get_or-take, get_or-drop, drop-drop, drop-take, take-take, length-take, length-drop}
use Rattle.std.proofs.lemmas.Bool.{lt-ltb, le-ltb, cases_lt, cases_eq, eq-eqb, ne_eqb}
use Rattle.disk_frames.specs.Frames.{Frame, frame_at, frame_of, blocks_in, settled_at, new_at, with_state, with_new_kept, written_frame, settled_as, ChangesOne, ChangesAll, Listed, FirstBad}
use Rattle.disk_frames.proofs.Bytes.{same_part, same_parts, state_frame, new_frame, mid_below, mid_above, mid_length}
use Rattle.disk_frames.proofs.Changes.{one_changed}

-- frame p of an image is its bytes from 1026 * p on
pub chunk_at : (n p : ℕ) (xs d : List ℕ) → p < n → get_or (first_chunks 1026 n xs) p d ≡ take 1026 (drop (1026 * p) xs)
chunk_at zero p xs d h = absurd (omega arith)
chunk_at (suc n) zero xs d h = refl
chunk_at (suc n) (suc p) xs d h =
    chunk_at n p (drop 1026 xs) d (omega arith) ∙ ap (take 1026) (drop-drop (1026 * p) 1026 xs ∙ ap (λ k. drop k xs) (omega arith))

module _ (xs : List ℕ) (frames : List (List ℕ)) (whole : frames ≡ first_chunks 1026 (blocks_in xs) xs) where
  chunk_is : (p : ℕ) → p < blocks_in xs → get_or frames p [] ≡ take 1026 (drop (1026 * p) xs)
  chunk_is p h = ap (λ z. get_or z p []) whole ∙ chunk_at (blocks_in xs) p xs [] h

  pub state_byte : (p : ℕ) → p < blocks_in xs → get_or (get_or frames p []) 0 0 ≡ get_or xs (1026 * p) 0
  state_byte p h =
      ap (λ z. get_or z 0 0) (chunk_is p h)
      ∙ (get_or-take 1026 (drop (1026 * p) xs) 0 0 (omega arith) ∙ (get_or-drop (1026 * p) xs 0 0 ∙ ap (λ k. get_or xs k 0) (omega arith)))

  -- the two contents of a frame
  pub settled_part : (p : ℕ) → p < blocks_in xs → take 512 (drop 2 (get_or frames p [])) ≡ settled_at xs (1026 * p)
  unfolding settled_at
  settled_part p h =
      ap (λ z. take 512 (drop 2 z)) (chunk_is p h)
      ∙ (ap (take 512) (drop-take 2 1024 (drop (1026 * p) xs) ∙ ap (take 1024) (drop-drop 2 (1026 * p) xs)) ∙ take-take 512 1024 (drop (1026 * p + 2) xs) (omega arith))

  pub new_part : (p : ℕ) → p < blocks_in xs → take 512 (drop 514 (get_or frames p [])) ≡ new_at xs (1026 * p)
  unfolding new_at
  new_part p h =
      ap (λ z. take 512 (drop 514 z)) (chunk_is p h)
      ∙ (ap (take 512) (drop-take 514 512 (drop (1026 * p) xs) ∙ ap (take 512) (drop-drop 514 (1026 * p) xs)) ∙ take-take 512 512 (drop (1026 * p + 514) xs) (omega arith))

  listed_by : (k : ℕ) → k ≤ blocks_in xs → AllWithin (λ x. get_or x 0 0 ≤ 1) frames 0 k → Listed xs k
  listed_by k h all p l = subst (λ s. s ≤ 1) (state_byte p (omega arith)) (all p [] (omega arith) l)

  pub bad_by_frames : (r : Option ℕ) → length frames ≡ blocks_in xs
      → MatchOption r (AllWithin (λ x. get_or x 0 0 ≤ 1) frames 0 (length frames)) (λ i. (i < length frames) × HoldsAt (λ x. 1 < get_or x 0 0) frames i × AllWithin (λ x. get_or x 0 0 ≤ 1) frames 0 i)
      → MatchOption r (Listed xs (blocks_in xs)) (FirstBad xs)
  bad_by_frames None count h = listed_by _ (omega arith) (subst (AllWithin (λ x. get_or x 0 0 ≤ 1) frames 0) count h)
  bad_by_frames (Some i) count h =
      record { inside = omega arith; bad = subst (λ s. 1 < s) (state_byte i (omega arith)) (h.1 []); before = listed_by i (omega arith) h.2 }

-- a frame that stands alone, and the same at a place of a list
pub same_bytes : (xs ys : List ℕ) (a b : ℕ) → a + 1026 ≤ length xs → b + 1026 ≤ length ys → ((k j : ℕ) → j < 1026 → k ≡ a + j → get_or xs k 0 ≡ get_or ys (b + j) 0) → frame_at xs a ≡ frame_at ys b
unfolding settled_at new_at
same_bytes xs ys a b l m same =
    same_parts (frame_at xs a) (frame_at ys b)
    (same a 0 (omega arith) (omega arith) ∙ ap (λ k. get_or ys k 0) (omega arith))
    (same (a + 1) 1 (omega arith) refl)
    (same_part xs ys (a + 2) (b + 2) (omega arith) (λ j h. same (a + 2 + j) (2 + j) (omega arith) (omega arith) ∙ ap (λ k. get_or ys k 0) (omega arith)))
    (same_part xs ys (a + 514) (b + 514) (omega arith) (λ j h. same (a + 514 + j) (514 + j) (omega arith) (omega arith) ∙ ap (λ k. get_or ys k 0) (omega arith)))

-- the frame of block b, of k bytes, put in the place of the old one
module _ (xs : List ℕ) (b k : ℕ) (inside : b < blocks_in xs) (e : k ≡ 1026) where
  pub taken_frame : frame_at (take k (drop (1026 * b) xs)) 0 ≡ frame_of xs b
  taken_frame =
      same_bytes (take k (drop (1026 * b) xs)) xs 0 (1026 * b) (omega (arith, length-take k (drop (1026 * b) xs), length-drop (1026 * b) xs)) (omega arith)
      (λ n j h i. ap (λ z. get_or (take k (drop (1026 * b) xs)) z 0) (omega arith) ∙ (get_or-take k (drop (1026 * b) xs) j 0 (omega arith) ∙ get_or-drop (1026 * b) xs j 0))

  pub placed : (f : Frame → Frame) (ys : List ℕ) → length ys ≡ 1026 → frame_at ys 0 ≡ f (frame_at (take k (drop (1026 * b) xs)) 0) → ChangesOne f b xs (put_mid (1026 * b) k xs ys)
  placed f ys l h =
      let m = mid_length (1026 * b) k xs ys (omega arith) (omega arith) in
      one_changed f xs (put_mid (1026 * b) k xs ys) b m others
      (same_bytes (put_mid (1026 * b) k xs ys) ys (1026 * b) 0 (omega arith) (omega arith) here ∙ (h ∙ ap f taken_frame))
    where
      at : (n j : ℕ) → j < 1026 → n ≡ 1026 * b + j → get_or (put_mid (1026 * b) k xs ys) n 0 ≡ get_or ys j 0
      at n j t i = search (rules, places)

      here : (n j : ℕ) → j < 1026 → n ≡ 1026 * b + j → get_or (put_mid (1026 * b) k xs ys) n 0 ≡ get_or ys (0 + j) 0
      here n j t i = at n j t i ∙ ap (λ z. get_or ys z 0) (omega arith)

      others : (n : ℕ) → (n < 1026 * b) ⊎ (1026 * b + 1026 ≤ n) → get_or (put_mid (1026 * b) k xs ys) n 0 ≡ get_or xs n 0
      others n (inl t) = mid_below (1026 * b) k xs ys (omega arith) (omega arith) n t
      others n (inr t) = mid_above (1026 * b) k xs ys (omega arith) (omega arith) n (omega arith)

-- a frame that stands alone, written, and settled with either content
pub written_here : (fr body : List ℕ) (n : ℕ) → length fr ≡ 1026 → n ≡ 512 → length body ≡ 512 → frame_at (set (put_mid 514 n fr body) 0 1) 0 ≡ written_frame body (frame_at fr 0)
written_here fr body n l e b =
    let m = mid_length 514 n fr body (omega arith) (omega arith) in
    state_frame (put_mid 514 n fr body) 0 (omega arith) 1 ∙ ap (with_state 1) (new_frame fr 0 (omega arith) body n e b)

pub settled_new_here : (xs zs : List ℕ) (new : Bool) → length zs ≡ 1026 → get_or xs 0 0 ≡ 1 → new ≡ true → frame_at zs 0 ≡ with_new_kept (frame_at xs 0) → frame_at (set zs 0 0) 0 ≡ settled_as new (frame_at xs 0)
settled_new_here xs zs new l e t k = rw (t, eq-eqb (get_or xs 0 0) 1 e) (state_frame zs 0 (omega arith) 0 ∙ ap (with_state 0) k)

pub settled_old_here : (xs zs : List ℕ) (new : Bool) → length zs ≡ 1026 → get_or xs 0 0 ≡ 1 → new ≡ false → zs ≡ xs → frame_at (set zs 0 0) 0 ≡ settled_as new (frame_at xs 0)
settled_old_here xs zs new l e t k = rw (t, eq-eqb (get_or xs 0 0) 1 e) (state_frame zs 0 (omega arith) 0 ∙ ap (λ z. with_state 0 (frame_at z 0)) k)

-- the frames below b are settled, each as P says, and the others not yet
pub record SettledBelow (P : ℕ → Frame → Type 0) (xs : List ℕ) (b : ℕ) (ys : List ℕ) : Type 0 where
  pub done : (q : ℕ) → q < b → P q (frame_of ys q)
  pub rest : (q : ℕ) → b ≤ q → frame_of ys q ≡ frame_of xs q

pub settled_none : (P : ℕ → Frame → Type 0) (xs : List ℕ) → SettledBelow P xs 0 xs
settled_none P xs = record { done = λ q h. absurd (omega arith); rest = λ q h. refl }

pub settled_more : (P : ℕ → Frame → Type 0) (xs ys zs : List ℕ) (b : ℕ) (f : Frame → Frame) → ChangesOne f b ys zs → P b (f (frame_of xs b)) → SettledBelow P xs b ys → SettledBelow P xs (b + 1) zs
settled_more P xs ys zs b f one here inv = record {
  done = λ q h. ⊎_elim
      (λ (d : q ≡ b). rw d (subst (P b) (sym (one b ∙ (rw (eq-eqb b b refl) (ap f (inv.rest b (omega arith)))))) here))
      (λ (ne : q ≡ b → ⊥). subst (P q) (sym (one q ∙ rw (ne_eqb q b ne))) (inv.done q (omega arith)))
      (cases_eq q b);
  rest = λ q h. one q ∙ rw (ne_eqb q b (omega arith)) (inv.rest q (omega arith));
}

-- each frame of a list is changed as f says, and nothing beyond
pub all_changed : (f : Frame → Frame) (xs ys : List ℕ) → ((q : ℕ) → q < blocks_in xs → frame_of ys q ≡ f (frame_of xs q)) → ((q : ℕ) → blocks_in xs ≤ q → frame_of ys q ≡ frame_of xs q) → ChangesAll f xs ys
all_changed f xs ys inside beyond q = ⊎_elim
    (λ (h : q < blocks_in xs). rw (lt-ltb q (blocks_in xs) h) (inside q h))
    (λ (h : blocks_in xs ≤ q). rw (le-ltb q (blocks_in xs) h) (beyond q h))
    (cases_lt q (blocks_in xs))
