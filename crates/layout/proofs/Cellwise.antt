-- A page of values with eight bytes each: how it is read value by value, and that it is the page of no other values.
use Rattle.std.proofs.Common.{◌≡◌, ℕ, zero, suc, ◌+◌, ◌-◌, ◌*◌, ◌<◌, List, [], ◌∷◌, ◌++◌, length, take, drop, set, sym, refl, ap, ◌∙◌, subst, arith, take-add}
use Rattle.std.proofs.lemmas.List.{append_assoc, take_at, drop_at, drop-drop, take_more_set, flat_map_more}
use Rattle.std.proofs.ByRecursion.{All-push}
use Rattle.std.specs.List.{flat_map, AllByRecursion}
use Rattle.layout.specs.Bytes.{zeros}
use Rattle.layout.specs.Pages.{cells_page}
use borrow.Rule.Slice.PartMut.{put_mid}
use Rattle.std.proofs.Common.{◌≤◌, get_or, Some, None, Option, lit≤}
use Rattle.std.proofs.lemmas.List.{append-nil, length-append, length-take-le, length-drop, length-replicate, take-append-drop, take_more, get_or-drop, get_or-replicate, get_or-append_right, replicate-append-replicate, ext_get_or, take_all}
use Rattle.layout.specs.Bytes.{Decodes}

module _ {X : Type 0} (bytes : X → List ℕ) (eight : (x : X) → length (bytes x) ≡ 8) where
  -- one more value read, into a list with room for it
  get_more : (page : List ℕ) (xs : List X) (k : ℕ) (x : X) → k < length xs → take (8 * k) page ≡ flat_map bytes (take k xs)
      → take 8 (drop (8 * k) page) ≡ bytes x → take (8 * (k + 1)) page ≡ flat_map bytes (take (k + 1) (set xs k x))
  get_more page xs k x l front here =
      let n : 8 * (k + 1) ≡ 8 * k + 8 = omega arith in
      ap (λ m. take m page) n ∙ take-add (8 * k) 8 page ∙ ap (λ z. z ++ take 8 (drop (8 * k) page)) front ∙ ap (λ z. flat_map bytes (take k xs) ++ z) here
      ∙ flat_map_more bytes [] (take k xs) x ∙ ap (flat_map bytes) (sym (take_more_set xs k x l))

  module _ (Proper : X → Type 0) where
    cell_in : (xs : List X) (k : ℕ) (rest : List ℕ) → k < length xs → AllByRecursion Proper xs
        → (x : X) × Proper x × (take 8 (drop (8 * k) (flat_map bytes xs ++ rest)) ≡ bytes x)
    cell_in [] k rest l ps = absurd (omega arith)
    cell_in (x ∷ xs) zero rest l (p, ps) =
        (x, p, ap (take 8) (append_assoc (bytes x) (flat_map bytes xs) rest) ∙ take_at (bytes x) (flat_map bytes xs ++ rest) 8 (eight x))
    cell_in (x ∷ xs) (suc k) rest l (p, ps) =
        let t = cell_in xs k rest (omega arith) ps in
        let n : 8 * suc k ≡ 8 + 8 * k = omega arith in
        let page : List ℕ = (bytes x ++ flat_map bytes xs) ++ rest in (
          t.0,
          t.1,
          ap (λ m. take 8 (drop m page)) n ∙ ap (take 8) (sym (drop-drop (8 * k) 8 page))
              ∙ ap (λ z. take 8 (drop (8 * k) z)) (ap (drop 8) (append_assoc (bytes x) (flat_map bytes xs) rest) ∙ drop_at (bytes x) (flat_map bytes xs ++ rest) 8 (eight x))
              ∙ t.2,
        )

    -- a proper value stands at each place of a page of proper values
    pub cell_proper : (page : List ℕ) (xs : List X) (k : ℕ) → page ≡ cells_page bytes xs → k < length xs → AllByRecursion Proper xs
        → (x : X) × Proper x × (take 8 (drop (8 * k) page) ≡ bytes x)
    unfolding cells_page
    cell_proper page xs k e l ps =
        let t = cell_in xs k (zeros (512 - 8 * length xs)) l ps in
        (t.0, t.1, ap (λ z. take 8 (drop (8 * k) z)) e ∙ t.2)

    -- the step of the loop that reads
    pub get_again : (page : List ℕ) (xs : List X) (k : ℕ) (x : X) → k < length xs
        → AllByRecursion Proper (take k xs) × (take (8 * k) page ≡ flat_map bytes (take k xs)) → Proper x → take 8 (drop (8 * k) page) ≡ bytes x
        → AllByRecursion Proper (take (k + 1) (set xs k x)) × (take (8 * (k + 1)) page ≡ flat_map bytes (take (k + 1) (set xs k x)))
    get_again page xs k x l (ps, front) p here =
        (subst (AllByRecursion Proper) (sym (take_more_set xs k x l)) (All-push Proper (take k xs) x ps p), get_more page xs k x l front here)

    module _ (apart : (x y : X) → Proper x → Proper y → bytes x ≡ bytes y → x ≡ y) where
      same_joined : (xs ys : List X) (r s : List ℕ) → length xs ≡ length ys → AllByRecursion Proper xs → AllByRecursion Proper ys
          → flat_map bytes xs ++ r ≡ flat_map bytes ys ++ s → xs ≡ ys
      same_joined [] [] r s l ps qs e = refl
      same_joined [] (y ∷ ys) r s l ps qs e = absurd (omega arith)
      same_joined (x ∷ xs) [] r s l ps qs e = absurd (omega arith)
      same_joined (x ∷ xs) (y ∷ ys) r s l (p, ps) (q, qs) e =
          let f : bytes x ++ (flat_map bytes xs ++ r) ≡ bytes y ++ (flat_map bytes ys ++ s) =
          sym (append_assoc (bytes x) (flat_map bytes xs) r) ∙ e ∙ append_assoc (bytes y) (flat_map bytes ys) s in
          let here : bytes x ≡ bytes y =
          sym (take_at (bytes x) (flat_map bytes xs ++ r) 8 (eight x)) ∙ ap (take 8) f ∙ take_at (bytes y) (flat_map bytes ys ++ s) 8 (eight y) in
          let there : flat_map bytes xs ++ r ≡ flat_map bytes ys ++ s =
          sym (drop_at (bytes x) (flat_map bytes xs ++ r) 8 (eight x)) ∙ ap (drop 8) f ∙ drop_at (bytes y) (flat_map bytes ys ++ s) 8 (eight y) in
          let h = apart x y p q here in
          let t = same_joined xs ys r s (omega arith) ps qs there in
          cc

      -- as many proper values with the same page are the same values
      pub same_cells : (xs ys : List X) → length xs ≡ length ys → AllByRecursion Proper xs → AllByRecursion Proper ys → cells_page bytes xs ≡ cells_page bytes ys → xs ≡ ys
      unfolding cells_page
      same_cells xs ys l ps qs e = same_joined xs ys (zeros (512 - 8 * length xs)) (zeros (512 - 8 * length ys)) l ps qs e

-- The same, step by step: a page written value by value, and what is read back from it.

-- eight bytes written over others
pub put_over : (a k : ℕ) (xs ys zs : List ℕ) → k ≡ 8 → ys ≡ zs → put_mid a k xs ys ≡ take a xs ++ (zs ++ drop (a + 8) xs)
put_over a k xs ys zs n e =
    ap (λ z. take a xs ++ (z ++ drop k (drop a xs))) e ∙ ap (λ z. take a xs ++ (zs ++ z)) (drop-drop k a xs ∙ ap (λ m. drop (a + m) xs) n)

-- eight zeros less
drop_zeros : (n : ℕ) → 8 ≤ n → drop 8 (zeros n) ≡ zeros (n - 8)
drop_zeros n h =
    let e : 8 + (n - 8) ≡ n = omega arith in
    ap (drop 8) (sym (replicate-append-replicate 8 (n - 8) 0 ∙ ap (λ m. zeros m) e)) ∙ drop_at (zeros 8) (zeros (n - 8)) 8 refl

module _ {X : Type 0} (bytes : X → List ℕ) (eight : (x : X) → length (bytes x) ≡ 8) where
  pub length_cells : (xs : List X) → length (flat_map bytes xs) ≡ 8 * length xs
  length_cells [] = refl
  length_cells (x ∷ xs) =
      let e = eight x in
      let r = length_cells xs in
      omega (arith, length-append (bytes x) (flat_map bytes xs))

  cells_push : (xs : List X) (x : X) → flat_map bytes xs ++ bytes x ≡ flat_map bytes (xs ++ (x ∷ []))
  cells_push xs x = flat_map_more bytes [] xs x

  length_front : (xs : List X) (k : ℕ) → k ≤ length xs → length (flat_map bytes (take k xs)) ≡ 8 * k
  length_front xs k h = length_cells (take k xs) ∙ ap (λ n. 8 * n) (length-take-le k xs h)

  -- one more value written
  pub put_more : (page : List ℕ) (xs : List X) (k : ℕ) (x : X) → k < length xs → length xs ≤ 64 → x ≡ get_or xs k x
      → page ≡ flat_map bytes (take k xs) ++ zeros (512 - 8 * k) → (after : List ℕ) → after ≡ take (8 * k) page ++ (bytes x ++ drop (8 * k + 8) page)
      → after ≡ flat_map bytes (take (k + 1) xs) ++ zeros (512 - 8 * (k + 1))
  put_more page xs k x l few is e after now =
      let front : List ℕ = flat_map bytes (take k xs) in
      let rest : List ℕ = zeros (512 - 8 * k) in
      let len : length front ≡ 8 * k = length_front xs k (omega arith) in
      let before : take (8 * k) page ≡ front = ap (take (8 * k)) e ∙ take_at front rest (8 * k) len in
      let less : 512 - 8 * k - 8 ≡ 512 - 8 * (k + 1) = omega arith in
      let below : drop (8 * k + 8) page ≡ zeros (512 - 8 * (k + 1)) =
      sym (drop-drop 8 (8 * k) page) ∙ ap (λ z. drop 8 (drop (8 * k) z)) e ∙ ap (drop 8) (drop_at front rest (8 * k) len)
      ∙ drop_zeros (512 - 8 * k) (omega arith) ∙ ap (λ n. zeros n) less in
      let more : take (k + 1) xs ≡ take k xs ++ (x ∷ []) = take_more xs k x l ∙ ap (λ y. take k xs ++ (y ∷ [])) (sym is) in
      let behind : List ℕ = zeros (512 - 8 * (k + 1)) in
      now ∙ ap (λ z. z ++ (bytes x ++ drop (8 * k + 8) page)) before ∙ ap (λ z. front ++ (bytes x ++ z)) below
      ∙ sym (append_assoc front (bytes x) behind) ∙ ap (λ z. z ++ behind) (cells_push (take k xs) x ∙ ap (flat_map bytes) (sym more))

  -- all values written
  pub put_all : (page : List ℕ) (xs : List X) (k : ℕ) → k ≡ length xs → page ≡ flat_map bytes (take k xs) ++ zeros (512 - 8 * k) → page ≡ cells_page bytes xs
  unfolding cells_page
  put_all page xs k n e =
      e ∙ ap (λ z. flat_map bytes z ++ zeros (512 - 8 * k)) (take_all k xs (omega arith)) ∙ ap (λ m. flat_map bytes xs ++ zeros (512 - 8 * m)) n

  -- one more value read, behind those before it
  pub push_more : (page : List ℕ) (xs : List X) (k : ℕ) (x : X) → take (8 * k) page ≡ flat_map bytes xs
      → take 8 (drop (8 * k) page) ≡ bytes x → take (8 * (k + 1)) page ≡ flat_map bytes (xs ++ (x ∷ []))
  push_more page xs k x front here =
      let n : 8 * (k + 1) ≡ 8 * k + 8 = omega arith in
      ap (λ m. take m page) n ∙ take-add (8 * k) 8 page ∙ ap (λ z. z ++ take 8 (drop (8 * k) page)) front ∙ ap (λ z. flat_map bytes xs ++ z) here
      ∙ cells_push xs x

  -- all values read, and zeros after them
  pub get_all : (page : List ℕ) (xs : List X) → length page ≡ 512 → length xs ≤ 64 → take (8 * length xs) page ≡ flat_map bytes xs
      → ((k : ℕ) → 8 * length xs ≤ k → k < length page → get_or page k 0 ≡ 0) → page ≡ cells_page bytes xs
  unfolding cells_page
  get_all page xs whole few front rest_is =
      let n : ℕ = 8 * length xs in
      let len : length (drop n page) ≡ length (zeros (512 - n)) = length-drop {A = ℕ} n page ∙ ap (λ m. m - n) whole ∙ sym (length-replicate {A = ℕ} (512 - n) 0) in
      let rest : drop n page ≡ zeros (512 - n) =
      ext_get_or 0 (drop n page) (zeros (512 - n)) len
      (λ i h.
      let h' : i < 512 - n = omega (arith, length-drop n page) in
      get_or-drop n page i 0 ∙ rest_is (n + i) (omega arith) (omega arith) ∙ sym (get_or-replicate (512 - n) i 0 0 h')) in
      sym (take-append-drop n page) ∙ ap (λ z. z ++ drop n page) front ∙ ap (λ z. flat_map bytes xs ++ z) rest

  -- what stands behind the values is zero
  pub rest_zero : (page : List ℕ) (xs : List X) (k : ℕ) → page ≡ cells_page bytes xs → 8 * length xs ≤ k → get_or page k 0 ≡ 0
  unfolding cells_page
  rest_zero page xs k e h =
      ap (λ z. get_or z k 0) e ∙ get_or-append_right (flat_map bytes xs) (zeros (512 - 8 * length xs)) (8 * length xs) k 0 (length_cells xs) h
      ∙ zeros_zero (512 - 8 * length xs) (k - 8 * length xs)
    where
      zeros_zero : (n i : ℕ) → get_or (zeros n) i 0 ≡ 0
      zeros_zero zero i = refl
      zeros_zero (suc n) zero = refl
      zeros_zero (suc n) (suc i) = zeros_zero n i

  -- the first value of a page
  pub one_front : (page : List ℕ) (x : X) → page ≡ cells_page bytes (x ∷ []) → take 8 page ≡ bytes x
  unfolding cells_page
  one_front page x e = ap (take 8) (e ∙ append_assoc (bytes x) [] (zeros 504)) ∙ take_at (bytes x) (zeros 504) 8 (eight x)

  module _ (Proper : X → Type 0) where
    -- the end of the loop that reads
    pub get_done : (page : List ℕ) (xs : List X) (k m : ℕ) → k ≡ length xs → m ≡ 8 * length xs → length page ≡ 512 → length xs ≤ 64
        → AllByRecursion Proper (take k xs) × (take (8 * k) page ≡ flat_map bytes (take k xs))
        → ((i : ℕ) → m ≤ i → i < length page → get_or page i 0 ≡ 0) → AllByRecursion Proper xs × (page ≡ cells_page bytes xs)
    get_done page xs k m n e whole few (ps, front) rest_is =
        let all : take k xs ≡ xs = take_all k xs (omega arith) in (
          subst (AllByRecursion Proper) all ps,
          get_all page xs whole few (ap (λ j. take (8 * j) page) (sym n) ∙ front ∙ ap (flat_map bytes) all) (λ i h j. rest_is i (omega arith) j),
        )

    -- a page of one value
    pub one_decodes : (page : List ℕ) → length page ≡ 512 → ((i : ℕ) → 8 ≤ i → i < length page → get_or page i 0 ≡ 0) → (r : Option X)
        → Decodes Proper bytes (take 8 page) r → Decodes Proper (λ x. cells_page bytes (x ∷ [])) page r
    one_decodes page whole rest_is (Some x) (p, e, only) =
        (p, get_all page (x ∷ []) whole (lit≤ tt) (e ∙ sym (append-nil (bytes x))) rest_is, λ y q f. only y q (one_front page y f))
    one_decodes page whole rest_is None none = λ y q f. none y q (one_front page y f)
