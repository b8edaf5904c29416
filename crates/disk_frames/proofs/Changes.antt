-- A write to one frame, by what the frame becomes.
use Rattle.std.proofs.Common.{◌≡◌, ℕ, ◌+◌, ◌-◌, ◌*◌, ◌<◌, ◌≤◌, cond, eqb, ◌⊎◌, List, length, get_or, inl, inr, arith}
use Rattle.std.proofs.lemmas.Bool.{eq-eqb, ne_eqb, cases_order}
use Rattle.disk_frames.specs.Frames.{Frame, frame_of, blocks_in, with_new_kept, ChangesOne}
use Rattle.disk_frames.proofs.Bytes.{same_frame, kept_outside, kept_frame}

-- The frame of block b is changed, and no byte outside it.
pub one_changed : (f : Frame → Frame) (xs ys : List ℕ) (b : ℕ) → length ys ≡ length xs
    → ((k : ℕ) → (k < 1026 * b) ⊎ (1026 * b + 1026 ≤ k) → get_or ys k 0 ≡ get_or xs k 0)
    → frame_of ys b ≡ f (frame_of xs b) → ChangesOne f b xs ys
one_changed f xs ys b len others e q = go (cases_order q b)
  where
    go : (q ≡ b) ⊎ ((q < b) ⊎ (b < q)) → frame_of ys q ≡ cond (eqb q b) (f (frame_of xs q)) (frame_of xs q)
    go (inl h) = rw (eq-eqb q b h, h) e
    go (inr (inl h)) = rw (ne_eqb q b (omega arith)) (same_frame xs ys len (1026 * q) (λ k l u. others k (inl (omega arith))))
    go (inr (inr h)) = rw (ne_eqb q b (omega arith)) (same_frame xs ys len (1026 * q) (λ k l u. others k (inr (omega arith))))

-- The new content copied over the settled content.
module _ (xs : List ℕ) (b : ℕ) (inside : b < blocks_in xs) where
  whole_frame : 1026 * b + 1026 ≤ length xs
  whole_frame = omega arith

  -- n bytes are copied
  pub new_kept : (ys : List ℕ) (n : ℕ) → n ≡ 512 → length ys ≡ length xs
      → ((k d : ℕ) → 1026 * b + 2 ≤ k → k < 1026 * b + 2 + n → get_or ys k d ≡ get_or xs (1026 * b + 514 + (k - (1026 * b + 2))) d)
      → ((k d : ℕ) → k < 1026 * b + 2 → get_or ys k d ≡ get_or xs k d)
      → ((k d : ℕ) → 1026 * b + 2 + n ≤ k → get_or ys k d ≡ get_or xs k d)
      → ChangesOne with_new_kept b xs ys
  new_kept ys n size len copied below above =
      one_changed with_new_kept xs ys b len (kept_outside xs (1026 * b) whole_frame ys len moved same) (kept_frame xs (1026 * b) whole_frame ys len moved same)
    where
      moved : (k : ℕ) → 1026 * b + 2 ≤ k → k < 1026 * b + 514 → get_or ys k 0 ≡ get_or xs (1026 * b + 514 + (k - (1026 * b + 2))) 0
      moved k l h = copied k 0 l (omega arith)

      same : (k : ℕ) → (k < 1026 * b + 2) ⊎ (1026 * b + 514 ≤ k) → get_or ys k 0 ≡ get_or xs k 0
      same k (inl h) = below k 0 h
      same k (inr h) = above k 0 (omega arith)
