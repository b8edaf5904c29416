-- The frames of an image as chunks, and the part of it that one erase block takes.
use Rattle.std.proofs.Common.{◌≡◌, ℕ, zero, suc, ◌+◌, ◌-◌, ◌*◌, ◌/◌, ◌%◌, ◌<◌, ◌≤◌, min, Bool, true, false, MatchBool, Option, Some, None, MatchOption, ◌&&◌, ◌||◌, List, [], length, get_or, take, drop, refl, ap, sym, subst, ◌∙◌, ⊎_elim, arith, rules}
use borrow.Rule.Slice.PartMut.{put_mid}
use Rattle.std.specs.List.{HoldsAt, AllWithin}
use Rattle.std.specs.Simd.{first_chunks}
use Rattle.std.proofs.lemmas.List.{places, get_or-take, get_or-drop, drop-drop, drop-take, take-take, length-take, length-drop}
use Rattle.std.proofs.lemmas.Bool.{cases_eq, cases_lt, eq-eqb, ne_eqb}
use Rattle.device.specs.Cells.{Cell, is_unsettled}
use Rattle.device.specs.Chips.{Note, State, block_of, unsettled_in}
use Rattle.device.specs.Chips.State.{held}
use Rattle.chip_frames.specs.Frames.{be32, state_at, note_at, data_at, page_of, erased_state, unsettled_state, Restated, erasing, Listed, FirstBad}
use Rattle.chip_frames.specs.Codes.{state_number, state_of}
use Rattle.chip_frames.proofs.Numbers.{unsettled_number}
use Rattle.chip_frames.proofs.Restating.{decode_unsettled}

-- frame p of an image is its bytes from 520 * p on
pub frame_at : (n p : ℕ) (xs d : List ℕ) → p < n → get_or (first_chunks 520 n xs) p d ≡ take 520 (drop (520 * p) xs)
frame_at zero p xs d h = absurd (omega arith)
frame_at (suc n) zero xs d h = refl
frame_at (suc n) (suc p) xs d h =
    frame_at n p (drop 520 xs) d (omega arith) ∙ ap (take 520) (drop-drop (520 * p) 520 xs ∙ ap (λ k. drop k xs) (omega arith))

pub frame_byte : (frames : List (List ℕ)) (n p j k : ℕ) (xs d : List ℕ) → frames ≡ first_chunks 520 n xs → p < n → j < 520 → 520 * p + j ≡ k → get_or (get_or frames p d) j 0 ≡ get_or xs k 0
frame_byte frames n p j k xs d e h l i =
    ap (λ z. get_or (get_or z p d) j 0) e
    ∙ (ap (λ z. get_or z j 0) (frame_at n p xs d h) ∙ (get_or-take 520 (drop (520 * p) xs) j 0 l ∙ (get_or-drop (520 * p) xs j 0 ∙ ap (λ m. get_or xs m 0) i)))

-- the note and the data of frame p
module _ (frames : List (List ℕ)) (n p : ℕ) (xs : List ℕ) (whole : frames ≡ first_chunks 520 n xs) (h : p < n) where
  pub frame_note : (address : ℕ) → (let f = get_or frames p [] in address ≡ be32 (get_or f 4 0) (get_or f 5 0) (get_or f 6 0) (get_or f 7 0))
      → ◌≡◌ {A = Note} (get_or (get_or frames p []) 2 0, get_or (get_or frames p []) 3 0, address) (note_at xs (520 * p))
  unfolding note_at
  frame_note address e =
      let at : (j : ℕ) → j < 520 → get_or (get_or frames p []) j 0 ≡ get_or xs (520 * p + j) 0 = (λ j l. frame_byte frames n p j (520 * p + j) xs [] whole h l refl) in
      rw (e, at 2 (omega arith), at 3 (omega arith), at 4 (omega arith), at 5 (omega arith), at 6 (omega arith), at 7 (omega arith))

  pub frame_data : take 512 (drop 8 (get_or frames p [])) ≡ data_at xs (520 * p)
  unfolding data_at
  frame_data =
      ap (λ z. take 512 (drop 8 (get_or z p []))) whole
      ∙ (ap (λ z. take 512 (drop 8 z)) (frame_at n p xs [] h)
      ∙ (ap (take 512) (drop-take 8 512 (drop (520 * p) xs) ∙ ap (take 512) (drop-drop 8 (520 * p) xs)) ∙ take-take 512 512 (drop (520 * p + 8) xs) (omega arith)))

-- The part of an image that the frames of block b take, from start to end.
module _ (xs : List ℕ) (b start end : ℕ) (s : start ≡ min (4160 * b) (length xs)) (e : end ≡ min (4160 * b + 4160) (length xs)) where
  abbrev pub part : List ℕ
  part = take (end - start) (drop start xs)

  pub length_part : length part ≡ end - start
  length_part = omega (arith, length-take (end - start) (drop start xs), length-drop start xs)

  pub part_byte : (j : ℕ) → j < end - start → get_or part j 0 ≡ get_or xs (start + j) 0
  part_byte j h = get_or-take (end - start) (drop start xs) j 0 h ∙ get_or-drop start xs j 0

  -- its frames are those of the pages of block b
  pub part_page : (p : ℕ) → p < length xs / 520 → p / 8 ≡ b → (start ≡ 4160 * b) × (8 * b ≤ p) × (p - 8 * b < length part / 520) × (520 * p ≡ start + 520 * (p - 8 * b))
  part_page p h g = let l = length_part in (omega arith, omega arith, omega arith, omega arith)

  pub page_part : (q : ℕ) → q < length part / 520 → (8 * b + q < length xs / 520) × ((8 * b + q) / 8 ≡ b) × (520 * (8 * b + q) ≡ start + 520 * q) × (520 * q < end - start)
  page_part q h = let l = length_part in (omega arith, omega arith, omega arith, omega arith)

  -- where the part is restated, so is the image
  pub part_erased : (zs : List ℕ) → length zs ≡ length part
      → ((q : ℕ) → q < length part / 520 → state_at zs q ≡ erased_state (state_at part q))
      → ((k : ℕ) → (k % 520 ≡ 0 → ⊥) → get_or zs k 0 ≡ get_or part k 0)
      → Restated xs (erasing xs b) (put_mid start (end - start) xs zs)
  part_erased zs len done others = record { states = states; others = rest }
    where
      l : length zs ≡ end - start
      l = len ∙ length_part

      below : (n : ℕ) → n < start → get_or (put_mid start (end - start) xs zs) n 0 ≡ get_or xs n 0
      below n h = search (rules, places)

      above : (n : ℕ) → end ≤ n → get_or (put_mid start (end - start) xs zs) n 0 ≡ get_or xs n 0
      above n h = search (rules, places)

      within : (n j : ℕ) → n ≡ start + j → j < end - start → get_or (put_mid start (end - start) xs zs) n 0 ≡ get_or zs j 0
      within n j i h = search (rules, places)

      states : (p : ℕ) → p < length xs / 520 → state_at (put_mid start (end - start) xs zs) p ≡ erasing xs b p
      states p h = ⊎_elim
          (λ (g : p / 8 ≡ b).
          let at = part_page p h g in
          let q = page_part (p - 8 * b) at.2 in
          rw (eq-eqb (p / 8) b g)
          (within (520 * p) (520 * (p - 8 * b)) at.3 q.3
          ∙ (done (p - 8 * b) at.2 ∙ ap erased_state (part_byte (520 * (p - 8 * b)) q.3 ∙ ap (λ k. get_or xs k 0) (sym at.3)))))
          (λ (g : p / 8 ≡ b → ⊥). rw (ne_eqb (p / 8) b g) (⊎_elim
          (λ (m : 520 * p < start). below (520 * p) m)
          (λ (m : start ≤ 520 * p). above (520 * p) (omega arith))
          (cases_lt (520 * p) start)))
          (cases_eq (p / 8) b)

      rest : (k : ℕ) → (k % 520 ≡ 0 → ⊥) → get_or (put_mid start (end - start) xs zs) k 0 ≡ get_or xs k 0
      rest k h = ⊎_elim
          (λ (m : k < start). below k m)
          (λ (m : start ≤ k). ⊎_elim
          (λ (t : k < end).
          within k (k - start) (omega arith) (omega arith)
          ∙ (others (k - start) (λ z. h (omega arith)) ∙ (part_byte (k - start) (omega arith) ∙ ap (λ n. get_or xs n 0) (omega arith))))
          (λ (t : end ≤ k). above k t)
          (cases_lt k end))
          (cases_lt k start)

-- whether a page of a block is unsettled, by one that is, and by all of them
pub unsettled_by_one : (pages : ℕ → Cell State) (b p n : ℕ) → p < n → block_of p ≡ b → is_unsettled (pages p) ≡ true → unsettled_in pages b n ≡ true
unfolding unsettled_in
unsettled_by_one pages b p zero h e u = absurd (omega arith)
unsettled_by_one pages b p (suc n) h e u = ⊎_elim
    (λ (i : n ≡ p). rw (i, eq-eqb (block_of p) b e, u) refl)
    (λ (i : n ≡ p → ⊥). rw (unsettled_by_one pages b p n (omega arith) e u) (or_true _))
    (cases_eq n p)
  where
    or_true : (x : Bool) → (x || true) ≡ true
    or_true true = refl
    or_true false = refl

pub unsettled_by_none : (pages : ℕ → Cell State) (b n : ℕ) → ((p : ℕ) → p < n → block_of p ≡ b → is_unsettled (pages p) ≡ false) → unsettled_in pages b n ≡ false
unfolding unsettled_in
unsettled_by_none pages b zero h = refl
unsettled_by_none pages b (suc n) h =
    rw (unsettled_by_none pages b n (λ p l e. h p (omega arith) e)) (⊎_elim
    (λ (e : block_of n ≡ b). rw (h n (omega arith) e) (no _))
    (λ (e : block_of n ≡ b → ⊥). rw (ne_eqb (block_of n) b e) refl)
    (cases_eq (block_of n) b))
  where
    no : (x : Bool) → ((x && false) || false) ≡ false
    no true = refl
    no false = refl

-- what the first of the frames with a bad state says of the image
module _ (xs : List ℕ) (frames : List (List ℕ)) (whole : frames ≡ first_chunks 520 (length xs / 520) xs) where
  state_byte : (p : ℕ) → p < length xs / 520 → get_or (get_or frames p []) 0 0 ≡ state_at xs p
  state_byte p h = frame_byte frames (length xs / 520) p 0 (520 * p) xs [] whole h (omega arith) (omega arith)

  listed_by : (k : ℕ) → k ≤ length xs / 520 → AllWithin (λ x. get_or x 0 0 ≤ 5) frames 0 k → Listed xs k
  listed_by k h all p l = subst (λ s. s ≤ 5) (state_byte p (omega arith)) (all p [] (omega arith) l)

  pub bad_by_frames : (r : Option ℕ) → length frames ≡ length xs / 520
      → MatchOption r (AllWithin (λ x. get_or x 0 0 ≤ 5) frames 0 (length frames)) (λ i. (i < length frames) × HoldsAt (λ x. 5 < get_or x 0 0) frames i × AllWithin (λ x. get_or x 0 0 ≤ 5) frames 0 i)
      → MatchOption r (Listed xs (length xs / 520)) (FirstBad xs)
  bad_by_frames None count h = listed_by _ (omega arith) (subst (AllWithin (λ x. get_or x 0 0 ≤ 5) frames 0) count h)
  bad_by_frames (Some i) count h =
      record { inside = omega arith; bad = subst (λ s. 5 < s) (state_byte i (omega arith)) (h.1 []); before = listed_by i (omega arith) h.2 }

-- whether one of the frames of a block is unsettled
module _ (xs : List ℕ) (b start end : ℕ) (s : start ≡ min (4160 * b) (length xs)) (e : end ≡ min (4160 * b + 4160) (length xs)) (frames : List (List ℕ)) (whole : frames ≡ first_chunks 520 (length (part xs b start end s e) / 520) (part xs b start end s e)) where
  of_page : (p : ℕ) → is_unsettled (page_of xs p) ≡ unsettled_state (state_number (state_of (state_at xs p)))
  of_page p = sym (unsettled_number (state_at xs p) ∙ decode_unsettled (state_at xs p) (held (note_at xs (520 * p)) (data_at xs (520 * p))))

  of_frame : (p q : ℕ) → q < length (part xs b start end s e) / 520 → 520 * p ≡ start + 520 * q → 520 * q < end - start → get_or (get_or frames q []) 0 0 ≡ state_at xs p
  of_frame p q h i l =
      frame_byte frames (length (part xs b start end s e) / 520) q 0 (520 * q) (part xs b start end s e) [] whole h (omega arith) (omega arith)
      ∙ (part_byte xs b start end s e (520 * q) l ∙ ap (λ k. get_or xs k 0) (sym i))

  pub any_by_frames : (r : Bool) → length frames ≡ length (part xs b start end s e) / 520
      → MatchBool r ((k : ℕ) × (k < length frames) × HoldsAt (λ x. unsettled_state (state_number (state_of (get_or x 0 0))) ≡ true) frames k) (AllWithin (λ x. unsettled_state (state_number (state_of (get_or x 0 0))) ≡ false) frames 0 (length frames))
      → r ≡ unsettled_in (page_of xs) b (length xs / 520)
  any_by_frames true count h =
      let q = h.0 in
      let at = page_part xs b start end s e q (omega arith) in
      sym (unsettled_by_one (page_of xs) b (8 * b + q) (length xs / 520) at.0 at.1
      (of_page (8 * b + q) ∙ (ap (λ z. unsettled_state (state_number (state_of z))) (sym (of_frame (8 * b + q) q (omega arith) at.2 at.3)) ∙ h.2 [])))
  any_by_frames false count h =
      sym (unsettled_by_none (page_of xs) b (length xs / 520)
      (λ p l g.
      let at = part_page xs b start end s e p l g in
      let k = page_part xs b start end s e (p - 8 * b) at.2 in
      of_page p ∙ (ap (λ z. unsettled_state (state_number (state_of z))) (sym (of_frame p (p - 8 * b) at.2 at.3 k.3)) ∙ h (p - 8 * b) [] (omega arith) (omega arith))))
