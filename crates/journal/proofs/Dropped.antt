-- Drops: page by page they make the table without an erase block, and the records of them turn the one table into the other.
use Rattle.std.proofs.Common.{◌≡◌, ℕ, suc, ◌+◌, ◌<◌, ◌≤◌, Bool, true, false, cond, ◌&&◌, List, [], ◌∷◌, ◌++◌, length, take, drop, set, Some, None, sym, refl, ap, ◌∙◌, subst, ap₂, ⊎_elim, arith}
use Rattle.std.proofs.lemmas.List.{append-nil, append_assoc, length-append, length-take-le, take_all, take_more, drop_all, drop_more, get_or_at, set_at, set-get_or}
use Rattle.std.proofs.lemmas.Bool.{cases_Bool, cond-true, cond-false, true≢false}
use Rattle.layout.specs.declared.entries.Entry.{Entry}
use Rattle.layout.specs.declared.entries.Mark.{Mark}
use Rattle.layout.specs.declared.entries.Mark.TheVariants.{Empty, Clean, Dirty}
use Rattle.layout.specs.declared.records.Record.{Record}
use Rattle.layout.specs.declared.records.Record.TheVariants.{Drop}
use Rattle.layout.specs.Entries.{ProperEntry}
use Rattle.table.specs.Tables.{Table, empty, has_mark, entry_at, marked_at, holds, held, without, apply, ProperTable}
use Rattle.table.proofs.Tablewise.{holds_from, held_at, entry_proper}
use Rattle.table.proofs.Changing.{without_one}
use Rattle.journal.specs.Notes.{Noted, staging}
use Rattle.journal.specs.Drops.{in_block, drops_from, spared_from, spared, dropping_page, dropping}

-- One page.

-- the entry of a marked page holds its address
marked_holds : (t : Table) (i : ℕ) → marked_at t i ≡ true → holds (entry_at t i).address.0 (entry_at t i) ≡ true
marked_holds t i h = holds_from (entry_at t i).address.0 (entry_at t i) h refl

pub drop_applies : (t : Table) (i : ℕ) → marked_at t i ≡ true → apply t (Drop (entry_at t i).address) ≡ Some (without t (entry_at t i).address.0)
drop_applies t i h = cond-true (held t (entry_at t i).address.0) (Some (without t (entry_at t i).address.0)) None (held_at t (entry_at t i).address.0 i (marked_holds t i h))

pub droppable : (t : Table) (i : ℕ) (e : Entry) → e ≡ entry_at t i → has_mark e.mark ≡ true → apply t (Drop e.address) ≡ Some (without t e.address.0)
droppable t i e is h =
    let marked : marked_at t i ≡ true = ap (λ x. has_mark x.mark) (sym is) ∙ h in
    subst (λ x. apply t (Drop x.address) ≡ Some (without t x.address.0)) (sym is) (drop_applies t i marked)

pub page_staged : (v w : Noted) (i : ℕ) (e : Entry) → e ≡ entry_at v.table i → has_mark e.mark ≡ true
    → w ≡ staging v (without v.table e.address.0) (Drop e.address) → w ≡ dropping_page i v
page_staged v w i e is h after =
    let marked : marked_at v.table i ≡ true = ap (λ x. has_mark x.mark) (sym is) ∙ h in
    after
    ∙ ap (λ x. staging v (without v.table x.address.0) (Drop x.address)) is
    ∙ sym (cond-true (marked_at v.table i) (staging v (without v.table (entry_at v.table i).address.0) (Drop (entry_at v.table i).address)) v marked)

-- the journal with another table and other staged records
abbrev changed : Noted → Table → List Record → Noted
changed v t rs = record { table = t; staged = rs; area = v.area; number = v.number; next = v.next }

abbrev drop_of : Entry → List Record
drop_of e = cond (has_mark e.mark) (Drop e.address ∷ []) []

-- an entry without a mark is the empty one
unmarked_empty : (e : Entry) → ProperEntry e → has_mark e.mark ≡ false → e ≡ empty
unmarked_empty e p h = go e.mark e.address.0 p h
  where
    go : (m : Mark) (a : ℕ) → ProperEntry (record { mark = m; address = record { 0 = a } }) → has_mark m ≡ false → ◌≡◌ {A = Entry} (record { mark = m; address = record { 0 = a } }) empty
    go Empty a p h = ap (λ x. record { mark = Empty; address = record { 0 = x } }) p
    go Clean a p h = absurd (true≢false h)
    go Dirty a p h = absurd (true≢false h)

-- a page is dropped: its entry is empty then
page_dropped : (v : Noted) (i : ℕ) → ProperTable v.table → i < length v.table
    → dropping_page i v ≡ changed v (set v.table i empty) (v.staged ++ drop_of (entry_at v.table i))
page_dropped v i proper inside = ⊎_elim
    (λ (h : marked_at v.table i ≡ true).
    let here = marked_holds v.table i h in
    let e = entry_at v.table i in
    let only = without_one v.table e.address.0 i (record { inside = inside; here = here; alone = λ j k. proper.distinct j i e.address.0 k here }) in
    cond-true (marked_at v.table i) _ v h ∙ ap₂ (changed v) only (ap (λ x. v.staged ++ x) (sym (cond-true (has_mark e.mark) (Drop e.address ∷ []) [] h))))
    (λ (h : marked_at v.table i ≡ false).
    let e = entry_at v.table i in
    let same : set v.table i empty ≡ v.table = ap (set v.table i) (sym (unmarked_empty e (entry_proper v.table i proper) h)) ∙ set-get_or v.table i empty in
    cond-false (marked_at v.table i) _ v h
    ∙ sym (ap₂ (changed v) same (ap (λ x. v.staged ++ x) (cond-false (has_mark e.mark) (Drop e.address ∷ []) [] h) ∙ append-nil v.staged)))
    (cases_Bool (marked_at v.table i))

-- One entry more.

spared_push : (t : Table) (e : Entry) (i n b : ℕ) → i + length t ≡ n → spared_from (t ++ e ∷ []) i b ≡ spared_from t i b ++ (cond (in_block b n) empty e ∷ [])
spared_push [] e i n b h = let same : i ≡ n = omega arith in ap (λ k. cond (in_block b k) empty e ∷ []) same
spared_push (x ∷ xs) e i n b h = ap (λ z. cond (in_block b i) empty x ∷ z) (spared_push xs e (suc i) n b (omega arith))

-- the drop of an entry, if its page lies in the block
abbrev drop_in : ℕ → ℕ → Entry → List Record
drop_in b n e = cond (in_block b n && has_mark e.mark) (Drop e.address ∷ []) []

push_cond : (c : Bool) (r : Record) (rs d : List Record) → cond c (r ∷ (rs ++ d)) (rs ++ d) ≡ cond c (r ∷ rs) rs ++ d
push_cond true r rs d = refl
push_cond false r rs d = refl

drops_push : (t : Table) (e : Entry) (i n b : ℕ) → i + length t ≡ n → drops_from (t ++ e ∷ []) i b ≡ drops_from t i b ++ drop_in b n e
drops_push [] e i n b h = let same : i ≡ n = omega arith in ap (λ k. drop_in b k e) same
drops_push (x ∷ xs) e i n b h =
    let c = in_block b i && has_mark x.mark in
    ap (λ z. cond c (Drop x.address ∷ z) z) (drops_push xs e (suc i) n b (omega arith)) ∙ push_cond c (Drop x.address) (drops_from xs (suc i) b) (drop_in b n e)

pub length_spared_from : (t : Table) (i b : ℕ) → length (spared_from t i b) ≡ length t
length_spared_from [] i b = refl
length_spared_from (e ∷ es) i b = ap suc (length_spared_from es (suc i) b)

-- What the pages below i make of the journal.

abbrev spared_upto : Table → ℕ → ℕ → Table
spared_upto t b i = spared_from (take i t) 0 b ++ drop i t

abbrev pub dropped_upto : ℕ → ℕ → Noted → Noted
dropped_upto b i v = changed v (spared_upto v.table b i) (v.staged ++ drops_from (take i v.table) 0 b)

pub dropped_none : (b : ℕ) (v : Noted) → v ≡ dropped_upto b 0 v
dropped_none b v = ap (changed v v.table) (sym (append-nil v.staged))

pub dropped_all : (b i : ℕ) (v : Noted) → length v.table ≤ i → dropped_upto b i v ≡ dropping b v
dropped_all b i v l =
    ap₂ (changed v)
    (ap₂ (λ x y. spared_from x 0 b ++ y) (take_all i v.table l) (drop_all i v.table l) ∙ append-nil (spared v.table b))
    (ap (λ x. v.staged ++ drops_from x 0 b) (take_all i v.table l))

module _ (b i : ℕ) (v : Noted) (inside : i < length v.table) where
  abbrev t : Table
  t = v.table

  abbrev front : Table
  front = spared_from (take i t) 0 b

  abbrev rest : Table
  rest = drop (i + 1) t

  front_long : length front ≡ i
  front_long = length_spared_from (take i t) 0 b ∙ length-take-le i t (omega arith)

  now_split : spared_upto t b i ≡ front ++ (entry_at t i ∷ rest)
  now_split = ap (λ x. front ++ x) (drop_more t i empty inside)

  now_here : entry_at (spared_upto t b i) i ≡ entry_at t i
  now_here = ap (λ x. entry_at x i) now_split ∙ get_or_at front (entry_at t i) rest empty i front_long

  now_long : i < length (spared_upto t b i)
  now_long = omega (arith, ap length now_split, length-append front (entry_at t i ∷ rest), front_long)

  next_split : spared_upto t b (i + 1) ≡ front ++ (cond (in_block b i) empty (entry_at t i) ∷ rest)
  next_split =
      ap (λ x. spared_from x 0 b ++ rest) (take_more t i empty inside)
      ∙ ap (λ x. x ++ rest) (spared_push (take i t) (entry_at t i) 0 i b (omega (arith, length-take-le i t (omega arith))))
      ∙ append_assoc front (cond (in_block b i) empty (entry_at t i) ∷ []) rest

  next_staged : v.staged ++ drops_from (take (i + 1) t) 0 b ≡ (v.staged ++ drops_from (take i t) 0 b) ++ drop_in b i (entry_at t i)
  next_staged =
      ap (λ x. v.staged ++ drops_from x 0 b) (take_more t i empty inside)
      ∙ ap (λ x. v.staged ++ x) (drops_push (take i t) (entry_at t i) 0 i b (omega (arith, length-take-le i t (omega arith))))
      ∙ sym (append_assoc v.staged (drops_from (take i t) 0 b) (drop_in b i (entry_at t i)))

  pub dropped_beside : in_block b i ≡ false → dropped_upto b i v ≡ dropped_upto b (i + 1) v
  dropped_beside out =
      ap₂ (changed v)
      (now_split ∙ sym (next_split ∙ ap (λ x. front ++ (x ∷ rest)) (cond-false (in_block b i) empty (entry_at t i) out)))
      (sym (next_staged
      ∙ ap (λ x. (v.staged ++ drops_from (take i t) 0 b) ++ cond (x && has_mark (entry_at t i).mark) (Drop (entry_at t i).address ∷ []) []) out
      ∙ append-nil (v.staged ++ drops_from (take i t) 0 b)))

  pub dropped_more : in_block b i ≡ true → ProperTable (spared_upto t b i) → dropping_page i (dropped_upto b i v) ≡ dropped_upto b (i + 1) v
  dropped_more at proper =
      page_dropped (dropped_upto b i v) i proper now_long
      ∙ ap₂ (changed v)
      (ap (λ x. set x i empty) now_split
      ∙ set_at front (entry_at t i) rest empty i front_long
      ∙ sym (next_split ∙ ap (λ x. front ++ (x ∷ rest)) (cond-true (in_block b i) empty (entry_at t i) at)))
      (ap (λ x. (v.staged ++ drops_from (take i t) 0 b) ++ drop_of x) now_here
      ∙ sym (next_staged
      ∙ ap (λ x. (v.staged ++ drops_from (take i t) 0 b) ++ cond (x && has_mark (entry_at t i).mark) (Drop (entry_at t i).address ∷ []) []) at))
