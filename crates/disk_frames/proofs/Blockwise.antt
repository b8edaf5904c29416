-- What the blocks of an image are, once its frames have changed.
use Rattle.std.proofs.Common.{◌≡◌, ℕ, ◌*◌, ◌<◌, ◌≤◌, Bool, true, false, cond, eqb, ltb, List, [], length, get_or, sym, refl, ap, ◌∙◌, subst, inl, inr, ⊎_elim, arith}
use Rattle.std.proofs.lemmas.Bool.{eq-eqb, ne_eqb, lt-ltb, le-ltb, cases_eq, cases_lt}
use Rattle.device.specs.Cells.{Cell, Cut, reads, is_unsettled}
use Rattle.device.specs.Cells.Cell.{settled, unsettled}
use Rattle.device.specs.Disks.{Never, written}
use Rattle.disk_frames.specs.Frames.{Frame, frame_of, settled_at, new_at, blocks_in, block_of_frame, block_in, image_blocks, written_frame, settled_frame, by_fate, cut_frame, cut_block, ChangesOne, ChangesAll}

-- What a change of every frame says of the blocks: g is what f is to a block.
pub blocks_changed : (f : Frame → Frame) (g : Frame → Cell (List ℕ) → Cell (List ℕ)) (xs ys : List ℕ) → length ys ≡ length xs
    → ((h : Frame) → block_of_frame (f h) ≡ g h (block_of_frame h)) → ((h : Frame) → g h (settled []) ≡ settled [])
    → ChangesAll f xs ys → (q : ℕ) → block_in ys q ≡ g (frame_of xs q) (block_in xs q)
blocks_changed f g xs ys len here past all q =
    rw len (⊎_elim
    (λ (h : q < blocks_in xs).
    let e : frame_of ys q ≡ f (frame_of xs q) = all q ∙ rw (lt-ltb q (blocks_in xs) h) in
    rw (lt-ltb q (blocks_in xs) h) (ap block_of_frame e ∙ here (frame_of xs q)))
    (λ (h : blocks_in xs ≤ q). rw (le-ltb q (blocks_in xs) h) (sym (past (frame_of xs q))))
    (cases_lt q (blocks_in xs)))

pub settled_block : (h : Frame) → block_of_frame (settled_frame h) ≡ settled (reads (block_of_frame h))
settled_block h = go (eqb h.state 1) refl
  where
    go : (t : Bool) → eqb h.state 1 ≡ t → block_of_frame (settled_frame h) ≡ settled (reads (block_of_frame h))
    go true e = rw e
    go false e = rw (e, e)

pub cut_block_is : (h : Frame) → block_of_frame (cut_frame h) ≡ cut_block h.fate (block_of_frame h)
cut_block_is h = go (eqb h.state 1) refl
  where
    go : (t : Bool) → eqb h.state 1 ≡ t → block_of_frame (cut_frame h) ≡ cut_block h.fate (block_of_frame h)
    go true e = rw e
    go false e = rw (e, e)

pub blocks_settled : (xs ys : List ℕ) → length ys ≡ length xs → ChangesAll settled_frame xs ys → (q : ℕ) → block_in ys q ≡ settled (reads (block_in xs q))
blocks_settled xs ys len all = blocks_changed settled_frame (λ h c. settled (reads c)) xs ys len settled_block (λ h. refl) all

pub blocks_cut : (xs ys : List ℕ) → length ys ≡ length xs → ChangesAll cut_frame xs ys → (q : ℕ) → block_in ys q ≡ cut_block (frame_of xs q).fate (block_in xs q)
blocks_cut xs ys len all = blocks_changed cut_frame (λ h c. cut_block h.fate c) xs ys len cut_block_is (λ h. refl) all

-- What a block reads, by whether it is unsettled.
module _ (xs : List ℕ) (b : ℕ) (inside : b < blocks_in xs) where
  pub block_here : block_in xs b ≡ block_of_frame (frame_of xs b)
  block_here = rw (lt-ltb b (blocks_in xs) inside)

  reads_by : (t : Bool) (old new : List ℕ) → (is_unsettled (cond t (unsettled old new) (settled old)) ≡ t) × (reads (cond t (unsettled old new) (settled old)) ≡ cond t new old)
  reads_by true old new = (refl, refl)
  reads_by false old new = (refl, refl)

  pub unsettled_by_state : is_unsettled (block_in xs b) ≡ eqb (get_or xs (1026 * b) 0) 1
  unsettled_by_state = rw block_here (reads_by (eqb (get_or xs (1026 * b) 0) 1) (settled_at xs (1026 * b)) (new_at xs (1026 * b))).0

  reads_by_state : reads (block_in xs b) ≡ cond (eqb (get_or xs (1026 * b) 0) 1) (new_at xs (1026 * b)) (settled_at xs (1026 * b))
  reads_by_state = rw block_here (reads_by (eqb (get_or xs (1026 * b) 0) 1) (settled_at xs (1026 * b)) (new_at xs (1026 * b))).1

  pub reads_settled : false ≡ is_unsettled (block_in xs b) → settled_at xs (1026 * b) ≡ reads (block_in xs b)
  reads_settled h =
      let t : eqb (get_or xs (1026 * b) 0) 1 ≡ false = sym unsettled_by_state ∙ sym h in
      sym (reads_by_state ∙ rw t)

  pub reads_new : true ≡ is_unsettled (block_in xs b) → new_at xs (1026 * b) ≡ reads (block_in xs b)
  reads_new h =
      let t : eqb (get_or xs (1026 * b) 0) 1 ≡ true = sym unsettled_by_state ∙ sym h in
      sym (reads_by_state ∙ rw t)

-- A write changes its own block only.
module _ (on : Bool) (xs ys bytes : List ℕ) (b : ℕ) (inside : b < blocks_in xs) (still : is_unsettled (block_in xs b) ≡ false) (len : length ys ≡ length xs) (change : ChangesOne (written_frame bytes) b xs ys) where
  pub written_blocks : (q : ℕ) → block_in ys q ≡ written (image_blocks on xs) b bytes q
  written_blocks q = ⊎_elim
      (λ (h : q ≡ b).
      let e : frame_of ys q ≡ written_frame bytes (frame_of xs b) = change q ∙ rw (eq-eqb q b h, h) in
      rw (eq-eqb q b h, len, lt-ltb q (blocks_in xs) (omega arith))
      (ap block_of_frame e ∙ ap (λ z. unsettled z bytes) (reads_settled xs b inside (sym still))))
      (λ (h : q ≡ b → ⊥).
      let e : frame_of ys q ≡ frame_of xs q = change q ∙ rw (ne_eqb q b h) in
      rw (ne_eqb q b h, len) (ap (λ z. cond (ltb q (blocks_in xs)) (block_of_frame z) (settled [])) e))
      (cases_eq q b)

-- a power cut leaves a block as its fate says
pub cut_by_fate : (fate : ℕ) (c : Cell (List ℕ)) → Cut Never c (cut_block fate c)
cut_by_fate fate (settled s) = (s, refl, refl)
cut_by_fate fate (unsettled was s) = go (eqb fate 1) refl
  where
    go : (t : Bool) → eqb fate 1 ≡ t → Cut Never (unsettled was s) (settled (by_fate fate was s))
    go true e = (s, rw e, inr (inl refl))
    go false e = (was, rw e, inl refl)

pub cut_blocks : (xs ys : List ℕ) → length ys ≡ length xs → ChangesAll cut_frame xs ys → (q : ℕ) → Cut Never (block_in xs q) (block_in ys q)
cut_blocks xs ys len all q =
    subst (Cut Never (block_in xs q)) (sym (blocks_cut xs ys len all q)) (cut_by_fate (frame_of xs q).fate (block_in xs q))
