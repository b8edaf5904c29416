-- A frame hangs on its own bytes alone, and what each write to the bytes makes of its frame.
use Rattle.std.proofs.Common.{◌≡◌, ℕ, ◌+◌, ◌-◌, ◌<◌, ◌≤◌, min, ◌⊎◌, List, length, get_or, take, drop, set, ap, ◌∙◌, inl, inr, arith, rules}
use borrow.Rule.Slice.PartMut.{put_mid}
use Rattle.std.proofs.lemmas.List.{places, ext_get_or, length-take, length-drop, length-set, get_or-take, get_or-drop, get_or-set_other, get_or-set_same}
use Rattle.std.proofs.lemmas.Slice.{between-put_mid}
use Rattle.disk_frames.specs.Frames.{Frame, frame_at, settled_at, new_at, with_state, with_new, with_new_kept}

-- 512 elements of one list are 512 elements of another, place by place
pub same_part : (xs ys : List ℕ) (a b : ℕ) → min 512 (length xs - a) ≡ min 512 (length ys - b)
    → ((j : ℕ) → j < 512 → get_or xs (a + j) 0 ≡ get_or ys (b + j) 0) → take 512 (drop a xs) ≡ take 512 (drop b ys)
same_part xs ys a b len same =
    ext_get_or 0 (take 512 (drop a xs)) (take 512 (drop b ys)) (simp (length-take, length-drop) len)
    (λ j h.
    let h' : j < 512 = omega (arith, length-take 512 (drop a xs)) in
    rw (get_or-take 512 (drop a xs) j 0 h', get_or-take 512 (drop b ys) j 0 h', get_or-drop a xs j 0, get_or-drop b ys j 0) (same j h'))

same_records : (s s' t t' : ℕ) (a a' b b' : List ℕ) → s ≡ s' → t ≡ t' → a ≡ a' → b ≡ b'
    → ◌≡◌ {A = Frame} (record { state = s; fate = t; settled_content = a; new_content = b }) (record { state = s'; fate = t'; settled_content = a'; new_content = b' })
same_records s s' t t' a a' b b' p q r u = cc

pub same_parts : (f g : Frame) → f.state ≡ g.state → f.fate ≡ g.fate → f.settled_content ≡ g.settled_content → f.new_content ≡ g.new_content → f ≡ g
same_parts f g s t a b = same_records _ _ _ _ _ _ _ _ s t a b

module _ (xs ys : List ℕ) (len : length ys ≡ length xs) (i : ℕ) where
  -- where the bytes of the settled content are the same, so is the content
  pub same_settled : ((k : ℕ) → i + 2 ≤ k → k < i + 514 → get_or ys k 0 ≡ get_or xs k 0) → settled_at ys i ≡ settled_at xs i
  unfolding settled_at
  same_settled same = same_part ys xs (i + 2) (i + 2) (rw len) (λ j h. same (i + 2 + j) (omega arith) (omega arith))

  pub same_new : ((k : ℕ) → i + 514 ≤ k → k < i + 1026 → get_or ys k 0 ≡ get_or xs k 0) → new_at ys i ≡ new_at xs i
  unfolding new_at
  same_new same = same_part ys xs (i + 514) (i + 514) (rw len) (λ j h. same (i + 514 + j) (omega arith) (omega arith))

  pub same_frame : ((k : ℕ) → i ≤ k → k < i + 1026 → get_or ys k 0 ≡ get_or xs k 0) → frame_at ys i ≡ frame_at xs i
  same_frame same =
      same_parts (frame_at ys i) (frame_at xs i) (same i (omega arith) (omega arith)) (same (i + 1) (omega arith) (omega arith))
      (same_settled (λ k l h. same k (omega arith) (omega arith))) (same_new (λ k l h. same k (omega arith) (omega arith)))

  -- where the settled content is a copy of what the new content was
  pub copied_settled : i + 1026 ≤ length xs → ((k : ℕ) → i + 2 ≤ k → k < i + 514 → get_or ys k 0 ≡ get_or xs (i + 514 + (k - (i + 2))) 0) → settled_at ys i ≡ new_at xs i
  unfolding settled_at new_at
  copied_settled inside copied =
      same_part ys xs (i + 2) (i + 514) (omega arith)
      (λ j h. copied (i + 2 + j) (omega arith) (omega arith) ∙ ap (λ n. get_or xs n 0) (omega arith))

-- An element of a list with a part written over: ys, of k, at a.
module _ (a k : ℕ) (xs ys : List ℕ) (inside : a + k ≤ length xs) (whole : length ys ≡ k) where
  pub mid_below : (n : ℕ) → n < a → get_or (put_mid a k xs ys) n 0 ≡ get_or xs n 0
  mid_below n h = search (rules, places)

  pub mid_above : (n : ℕ) → a + k ≤ n → get_or (put_mid a k xs ys) n 0 ≡ get_or xs n 0
  mid_above n h = search (rules, places)

  pub mid_length : length (put_mid a k xs ys) ≡ length xs
  mid_length = search (rules, places)

-- Each part of the frame at i, of a list xs, written over.
module _ (xs : List ℕ) (i : ℕ) (inside : i + 1026 ≤ length xs) where
  -- what lies outside the frame
  abbrev pub Outside : List ℕ → Type 0
  Outside ys = (n : ℕ) → (n < i) ⊎ (i + 1026 ≤ n) → get_or ys n 0 ≡ get_or xs n 0

  pub state_frame : (s : ℕ) → frame_at (set xs i s) i ≡ with_state s (frame_at xs i)
  state_frame s =
      same_parts (frame_at (set xs i s) i) (with_state s (frame_at xs i))
      (get_or-set_same xs i s 0 (omega arith))
      (get_or-set_other xs i (i + 1) s 0 (omega arith))
      (same_settled xs (set xs i s) (length-set xs i s) i (λ n l h. get_or-set_other xs i n s 0 (omega arith)))
      (same_new xs (set xs i s) (length-set xs i s) i (λ n l h. get_or-set_other xs i n s 0 (omega arith)))

  -- the new content, of k bytes
  module _ (bytes : List ℕ) (k : ℕ) (size : k ≡ 512) (whole : length bytes ≡ 512) where
    pub new_length : length (put_mid (i + 514) k xs bytes) ≡ length xs
    new_length = mid_length (i + 514) k xs bytes (omega arith) (omega arith)

    new_below : (n : ℕ) → n < i + 514 → get_or (put_mid (i + 514) k xs bytes) n 0 ≡ get_or xs n 0
    new_below n h = mid_below (i + 514) k xs bytes (omega arith) (omega arith) n h

    new_is : new_at (put_mid (i + 514) k xs bytes) i ≡ bytes
    unfolding new_at
    new_is =
        let e : i + 1026 - (i + 514) ≡ 512 = omega arith in
        let t = between-put_mid (i + 514) k xs bytes (i + 1026) (omega arith) (omega arith) in
        rw e at t

    pub new_frame : frame_at (put_mid (i + 514) k xs bytes) i ≡ with_new bytes (frame_at xs i)
    new_frame =
        same_parts (frame_at (put_mid (i + 514) k xs bytes) i) (with_new bytes (frame_at xs i))
        (new_below i (omega arith))
        (new_below (i + 1) (omega arith))
        (same_settled xs (put_mid (i + 514) k xs bytes) new_length i (λ n l h. new_below n h))
        new_is

  -- the settled content, with what the new content is
  module _ (ys : List ℕ) (len : length ys ≡ length xs) (copied : (n : ℕ) → i + 2 ≤ n → n < i + 514 → get_or ys n 0 ≡ get_or xs (i + 514 + (n - (i + 2))) 0) (same : (n : ℕ) → (n < i + 2) ⊎ (i + 514 ≤ n) → get_or ys n 0 ≡ get_or xs n 0) where
    pub kept_outside : Outside ys
    kept_outside n (inl h) = same n (inl (omega arith))
    kept_outside n (inr h) = same n (inr (omega arith))

    pub kept_frame : frame_at ys i ≡ with_new_kept (frame_at xs i)
    kept_frame =
        same_parts (frame_at ys i) (with_new_kept (frame_at xs i)) (same i (inl (omega arith))) (same (i + 1) (inl (omega arith)))
        (copied_settled xs ys len i inside copied) (same_new xs ys len i (λ n l h. same n (inr l)))
