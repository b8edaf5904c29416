-- What the pages of an image are, once bytes of its frames have changed.
use Rattle.std.proofs.Common.{◌≡◌, ℕ, zero, suc, ◌+◌, ◌*◌, ◌/◌, ◌<◌, ◌≤◌, true, false, cond, ◌&&◌, ◌||◌, eqb, ◌⊎◌, List, length, get_or, take, drop, sym, refl, ap, ◌∙◌, subst, ap₂, inl, inr, ⊎_elim, arith}
use Rattle.std.proofs.lemmas.List.{ext_get_or, length-take, length-drop, get_or-take, get_or-drop}
use Rattle.std.proofs.lemmas.Bool.{eq-eqb, ne_eqb, cases_Bool, cases_lt, cases_order, lt-ltb, le-ltb}
use Rattle.device.specs.Cells.{Cell, reads, is_unsettled, Cut}
use Rattle.device.specs.Cells.Cell.{settled, unsettled}
use Rattle.device.specs.Chips.{Note, State, Tears, block_of, erased, unsettled_in}
use Rattle.device.specs.Chips.State.{blank, torn, held}
use Rattle.chip_frames.specs.Frames.{state_at, fate_at, note_at, data_at, decode, page_of, page_in, blocks_in, Whole, settled_state, erased_state, cut_state, Restated, settling, erasing, cutting, Framed}

-- the frame's bytes from 2 on are the same in both
abbrev pub SameBody : List ℕ → List ℕ → ℕ → Type 0
SameBody xs ys i = (k : ℕ) → i + 2 ≤ k → k < i + 520 → get_or xs k 0 ≡ get_or ys k 0

module _ (xs ys : List ℕ) (len : length xs ≡ length ys) (i : ℕ) (body : SameBody xs ys i) where
  pub same_note : note_at xs i ≡ note_at ys i
  unfolding note_at
  same_note =
      let e2 = body (i + 2) (omega arith) (omega arith) in
      let e3 = body (i + 3) (omega arith) (omega arith) in
      let e4 = body (i + 4) (omega arith) (omega arith) in
      let e5 = body (i + 5) (omega arith) (omega arith) in
      let e6 = body (i + 6) (omega arith) (omega arith) in
      let e7 = body (i + 7) (omega arith) (omega arith) in
      cc

  pub same_data : data_at xs i ≡ data_at ys i
  unfolding data_at
  same_data =
      ext_get_or 0 (take 512 (drop (i + 8) xs)) (take 512 (drop (i + 8) ys)) (simp (length-take, length-drop, len))
      (λ k h.
      let h' : k < 512 = omega (arith, length-take 512 (drop (i + 8) xs)) in
      rw (get_or-take 512 (drop (i + 8) xs) k 0 h', get_or-take 512 (drop (i + 8) ys) k 0 h', get_or-drop (i + 8) xs k 0, get_or-drop (i + 8) ys k 0)
      (body (i + 8 + k) (omega arith) (omega arith)))

-- a page whose frame has the same body, and now the state byte s
pub same_body_page : (xs ys : List ℕ) → length ys ≡ length xs → (q s : ℕ) → SameBody ys xs (520 * q) → state_at ys q ≡ s
    → page_of ys q ≡ decode s (held (note_at xs (520 * q)) (data_at xs (520 * q)))
same_body_page xs ys len q s body e = let n = same_note ys xs len (520 * q) body in let d = same_data ys xs len (520 * q) body in cc

pub restated_page : (xs ys : List ℕ) (f : ℕ → ℕ) → length ys ≡ length xs → Restated xs f ys → (q : ℕ) → q < length xs / 520
    → page_of ys q ≡ decode (f q) (held (note_at xs (520 * q)) (data_at xs (520 * q)))
restated_page xs ys f len r q l = same_body_page xs ys len q (f q) (λ k h g. r.others k (λ z. omega arith)) (r.states q l)

pub framed_page : (xs ys : List ℕ) (p : ℕ) (note : Note) (bytes : List ℕ) → length ys ≡ length xs → Framed xs p note bytes ys
    → (q : ℕ) → page_of ys q ≡ cond (eqb q p) (unsettled blank (held note bytes)) (page_of xs q)
framed_page xs ys p note bytes len r q = go (cases_order q p)
  where
    go : (q ≡ p) ⊎ ((q < p) ⊎ (p < q)) → page_of ys q ≡ cond (eqb q p) (unsettled blank (held note bytes)) (page_of xs q)
    go (inl e) = rw (eq-eqb q p e, e, r.state, r.spare, r.content)
    go (inr (inl l)) =
        rw (ne_eqb q p (omega arith))
        (same_body_page xs ys len q (state_at xs q) (λ k _ h. r.others k (inl (omega arith))) (r.others (520 * q) (inl (omega arith))))
    go (inr (inr l)) =
        rw (ne_eqb q p (omega arith))
        (same_body_page xs ys len q (state_at xs q) (λ k h _. r.others k (inr (omega arith))) (r.others (520 * q) (inr (omega arith))))

decode_settled : (s : ℕ) (h : State) → decode (settled_state s) h ≡ settled (reads (decode s h))
decode_settled zero h = refl
decode_settled (suc zero) h = refl
decode_settled (suc (suc zero)) h = refl
decode_settled (suc (suc (suc zero))) h = refl
decode_settled (suc (suc (suc (suc zero)))) h = refl
decode_settled (suc (suc (suc (suc (suc zero))))) h = refl
decode_settled (suc (suc (suc (suc (suc (suc n)))))) h = refl

decode_erased : (s : ℕ) (n : Note) (b : List ℕ) → decode (erased_state s) (held n b) ≡ erased (decode s (held n b))
decode_erased zero n b = refl
decode_erased (suc zero) n b = refl
decode_erased (suc (suc zero)) n b = refl
decode_erased (suc (suc (suc zero))) n b = refl
decode_erased (suc (suc (suc (suc zero)))) n b = refl
decode_erased (suc (suc (suc (suc (suc zero))))) n b = refl
decode_erased (suc (suc (suc (suc (suc (suc k)))))) n b = refl

decode_cut : (s fate : ℕ) (h : State) → Cut Tears (decode s h) (decode (cut_state s fate) h)
decode_cut zero fate h = (blank, refl, refl)
decode_cut (suc zero) fate h = (h, refl, refl)
decode_cut (suc (suc zero)) fate h = (torn, refl, refl)
decode_cut (suc (suc (suc zero))) zero h = (blank, refl, inl refl)
decode_cut (suc (suc (suc zero))) (suc zero) h = (h, refl, inr (inl refl))
decode_cut (suc (suc (suc zero))) (suc (suc n)) h = (torn, refl, inr (inr refl))
decode_cut (suc (suc (suc (suc zero)))) zero h = (h, refl, inl refl)
decode_cut (suc (suc (suc (suc zero)))) (suc zero) h = (blank, refl, inr (inl refl))
decode_cut (suc (suc (suc (suc zero)))) (suc (suc n)) h = (torn, refl, inr (inr refl))
decode_cut (suc (suc (suc (suc (suc zero))))) zero h = (torn, refl, inl refl)
decode_cut (suc (suc (suc (suc (suc zero))))) (suc zero) h = (blank, refl, inr (inl refl))
decode_cut (suc (suc (suc (suc (suc zero))))) (suc (suc n)) h = (torn, refl, inr (inr refl))
decode_cut (suc (suc (suc (suc (suc (suc n)))))) fate h = (torn, refl, refl)

-- The pages of a whole image, those past its end included. A fact about a page is shown below the end, by its frame, and past it, where pages are blank.
module _ (xs ys : List ℕ) (w : Whole xs) (len : length ys ≡ length xs) where
  by_frames : (R : Cell State → Cell State → Type 0) (q : ℕ) → R (settled blank) (settled blank) → (q < length xs / 520 → R (page_of xs q) (page_of ys q))
      → R (page_in xs q) (page_in ys q)
  by_frames R q past inside =
      let e : blocks_in ys ≡ blocks_in xs = ap (λ n. n / 4160) len in
      ⊎_elim
      (λ (h : q < 8 * blocks_in xs). rw (e, lt-ltb q (8 * blocks_in xs) h) (inside (omega (arith, w.whole))))
      (λ (h : 8 * blocks_in xs ≤ q). rw (e, le-ltb q (8 * blocks_in xs) h) past)
      (cases_lt q (8 * blocks_in xs))

  pub settled_pages : Restated xs (settling xs) ys → (q : ℕ) → page_in ys q ≡ settled (reads (page_in xs q))
  settled_pages r q =
      by_frames (λ x y. y ≡ settled (reads x)) q refl
      (λ l. restated_page xs ys (settling xs) len r q l ∙ decode_settled (state_at xs q) (held (note_at xs (520 * q)) (data_at xs (520 * q))))

  pub erased_pages : (b : ℕ) → Restated xs (erasing xs b) ys → (q : ℕ) → page_in ys q ≡ cond (eqb (block_of q) b) (erased (page_in xs q)) (page_in xs q)
  erased_pages b r q =
      ⊎_elim
      (λ (t : eqb (block_of q) b ≡ true). rw t (by_frames (λ x y. y ≡ erased x) q refl
      (λ l. restated_page xs ys (erasing xs b) len r q l ∙ rw t (decode_erased (state_at xs q) (note_at xs (520 * q)) (data_at xs (520 * q))))))
      (λ (t : eqb (block_of q) b ≡ false). rw t (by_frames (λ x y. y ≡ x) q refl (λ l. restated_page xs ys (erasing xs b) len r q l ∙ rw t refl)))
      (cases_Bool (eqb (block_of q) b))

  pub cut_pages : Restated xs (cutting xs) ys → (q : ℕ) → Cut Tears (page_in xs q) (page_in ys q)
  cut_pages r q =
      by_frames (Cut Tears) q (blank, refl, refl)
      (λ l. subst (Cut Tears (page_of xs q)) (sym (restated_page xs ys (cutting xs) len r q l))
      (decode_cut (state_at xs q) (fate_at xs q) (held (note_at xs (520 * q)) (data_at xs (520 * q)))))

  pub framed_pages : (p : ℕ) (note : Note) (bytes : List ℕ) → p < 8 * blocks_in xs → Framed xs p note bytes ys
      → (q : ℕ) → page_in ys q ≡ cond (eqb q p) (unsettled blank (held note bytes)) (page_in xs q)
  framed_pages p note bytes l r q =
      let e : blocks_in ys ≡ blocks_in xs = ap (λ n. n / 4160) len in
      ⊎_elim
      (λ (h : q < 8 * blocks_in xs). rw (e, lt-ltb q (8 * blocks_in xs) h) (framed_page xs ys p note bytes len r q))
      (λ (h : 8 * blocks_in xs ≤ q). rw (e, le-ltb q (8 * blocks_in xs) h, ne_eqb q p (omega arith)))
      (cases_lt q (8 * blocks_in xs))

-- whether a page of a block is unsettled hangs on the first k pages alone
pub unsettled_same : (pages pages' : ℕ → Cell State) (b k : ℕ) → ((p : ℕ) → p < k → pages p ≡ pages' p) → unsettled_in pages b k ≡ unsettled_in pages' b k
unfolding unsettled_in
unsettled_same pages pages' b zero e = refl
unsettled_same pages pages' b (suc k) e =
    ap₂ ◌||◌ (ap (λ c. eqb (block_of k) b && is_unsettled c) (e k (omega arith))) (unsettled_same pages pages' b k (λ p l. e p (omega arith)))

pub unsettled_pages : (xs : List ℕ) (b : ℕ) → Whole xs → unsettled_in (page_of xs) b (length xs / 520) ≡ unsettled_in (page_in xs) b (8 * blocks_in xs)
unsettled_pages xs b w =
    let e : length xs / 520 ≡ 8 * blocks_in xs = omega (arith, w.whole) in
    ap (unsettled_in (page_of xs) b) e ∙ unsettled_same (page_of xs) (page_in xs) b (8 * blocks_in xs) (λ p l. rw (lt-ltb p (8 * blocks_in xs) l))
