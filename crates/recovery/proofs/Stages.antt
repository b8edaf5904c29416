-- The stages of recovery, trailers, entries, log and data pages, each with one outcome only.
use Rattle.std.proofs.Common.{◌≡◌, ℕ, zero, suc, ◌+◌, ◌*◌, ◌%◌, ◌<◌, ◌≤◌, ◌⊎◌, take, Some, Ok, Err, Result, sym, refl, ap, ◌∙◌, subst, ap₂, subst₂, inl, inr, ⊎_elim, arith}
use Rattle.std.proofs.ByRecursion.{All-take}
use Rattle.std.proofs.lemmas.List.{take_all, take-take}
use Rattle.std.proofs.lemmas.Bool.{cases_eq}
use Rattle.std.specs.List.{AllByRecursion}
use Rattle.device.specs.declared.faults.Fault.{Fault}
use Rattle.device.specs.declared.faults.Refusal.TheVariants.{NoCheckpoint, Breach}
use Rattle.device.specs.Chips.{State, data_page_at}
use Rattle.device.specs.Chips.State.{blank, torn, held}
use Rattle.layout.specs.declared.areas.Area.{Area}
use Rattle.layout.specs.declared.areas.Area.TheVariants.{One, Two}
use Rattle.layout.specs.Entries.{ProperEntry}
use Rattle.layout.specs.Geometry.{other_area, entry_pages, log_pages, entry_page_at, trailer_at, log_page_at}
use Rattle.layout.specs.Laws.{Checkpoint, entry_page, trailer_page, log_page}
use Rattle.layout.specs.Laws as laws
use Rattle.layout.specs.Pages.{trailer_note, trailer_data}
use Rattle.layout.proofs.Unique.{one_checkpoint, one_log}
use Rattle.table.specs.Tables.{Table, replayed}
use Rattle.recovery.specs.Recovering.{Found, Counts, Numbered, Active, Entered, LogStep, Logged, Backed, Malformed, cache_fault}

-- what a relation allows, it allows of one result only
abbrev pub OneResult : {X : Type 0} → (Result X Fault → Type 0) → Type 0
OneResult {X} P = (a b : Result X Fault) → P a → P b → a ≡ b

-- One stage and then another, which begins with what the first one found.
abbrev pub Then : {X Y : Type 0} → (Result X Fault → Type 0) → (X → Result Y Fault → Type 0) → Result Y Fault → Type 0
Then {X} P Q r = ((f : Fault) × P (Err f) × (r ≡ Err f)) ⊎ ((x : X) × P (Ok x) × Q x r)

err_same : {X : Type 0} (f g : Fault) → ◌≡◌ {A = Result X Fault} (Err f) (Err g) → f ≡ g
err_same f g e = cc

ok_same : {X : Type 0} (x y : X) → ◌≡◌ {A = Result X Fault} (Ok x) (Ok y) → x ≡ y
ok_same x y e = cc

err_ok : {X : Type 0} (f : Fault) (x : X) → ◌≡◌ {A = Result X Fault} (Err f) (Ok x) → ⊥
err_ok f x e = grind arith

pub then_one : {X Y : Type 0} (P : Result X Fault → Type 0) (Q : X → Result Y Fault → Type 0) → OneResult P → ((x : X) → P (Ok x) → OneResult (Q x))
    → OneResult (Then P Q)
then_one P Q p q a b (inl (f, h, e)) (inl (g, k, d)) = e ∙ ap Err (err_same f g (p (Err f) (Err g) h k)) ∙ sym d
then_one P Q p q a b (inl (f, h, e)) (inr (y, k, d)) = absurd (err_ok f y (p (Err f) (Ok y) h k))
then_one P Q p q a b (inr (x, h, e)) (inl (g, k, d)) = absurd (err_ok g x (p (Err g) (Ok x) k h))
then_one P Q p q a b (inr (x, h, e)) (inr (y, k, d)) =
    let same : x ≡ y = ok_same x y (p (Ok x) (Ok y) h k) in
    q y k a b (subst (λ z. Q z a) same e) d

-- two faults that each are at a place which is the first one of its kind
first_fault : (place : ℕ → ℕ) (j k : ℕ) (f g : Fault) → f ≡ cache_fault (place j) Breach → g ≡ cache_fault (place k) Breach → (j < k → ⊥) → (k < j → ⊥) → f ≡ g
first_fault place j k f g e d a b = let same : j ≡ k = omega arith in e ∙ ap (λ i. cache_fault (place i) Breach) same ∙ sym d

module _ (D : ℕ) (s : ℕ → State) where
  -- Trailers

  pub data BadTrailers (f : Fault) : Type 0 where
    none : f ≡ cache_fault 0 NoCheckpoint → (Counts (s (trailer_at D One)) → ⊥) → (Counts (s (trailer_at D Two)) → ⊥) → BadTrailers f
    first : f ≡ cache_fault (trailer_at D One) Breach → Malformed D s One → BadTrailers f
    second : f ≡ cache_fault (trailer_at D Two) Breach → (Malformed D s One → ⊥) → Malformed D s Two → BadTrailers f
    same : f ≡ cache_fault (trailer_at D Two) Breach → (n : ℕ) → Numbered D One (s (trailer_at D One)) n → Numbered D Two (s (trailer_at D Two)) n → BadTrailers f

  abbrev pub AreaStage : Result (Area × ℕ) Fault → Type 0
  AreaStage (Ok x) = Active D s x.0 x.1
  AreaStage (Err f) = BadTrailers f

  numbered_counts : (area : Area) (n : ℕ) → Numbered D area (s (trailer_at D area)) n → Counts (s (trailer_at D area))
  numbered_counts area n h = subst Counts (sym h.is) refl

  numbered_same : (area : Area) (n m : ℕ) → Numbered D area (s (trailer_at D area)) n → Numbered D area (s (trailer_at D area)) m → n ≡ m
  numbered_same area n m h k =
      let e : held (trailer_note D n) (trailer_data area D) ≡ held (trailer_note D m) (trailer_data area D) = sym h.is ∙ k.is in
      number n m e
    where
      number : (n m : ℕ) → held (trailer_note D n) (trailer_data area D) ≡ held (trailer_note D m) (trailer_data area D) → n ≡ m
      number n m e = let f : trailer_note D n ≡ trailer_note D m = cc in ap (λ z. z.2) f

  -- a trailer of the other area that counts is one behind
  behind : (area : Area) (n : ℕ) → Active D s area n → Counts (s (trailer_at D (other_area area)))
      → (b : ℕ) × Numbered D (other_area area) (s (trailer_at D (other_area area))) b × (n ≡ (b + 1) % 3)
  behind area n h c = go h.other
    where
      go : (Counts (s (trailer_at D (other_area area))) → ⊥) ⊎ ((b : ℕ) × Numbered D (other_area area) (s (trailer_at D (other_area area))) b × (n ≡ (b + 1) % 3))
          → (b : ℕ) × Numbered D (other_area area) (s (trailer_at D (other_area area))) b × (n ≡ (b + 1) % 3)
      go (inl not) = absurd (not c)
      go (inr x) = x

  -- both areas cannot be active
  not_both : (n m : ℕ) → Active D s One n → Active D s Two m → ⊥
  not_both n m h k =
      let (b, x, e) = behind One n h (numbered_counts Two m k.own) in
      let (c, y, d) = behind Two m k (numbered_counts One n h.own) in
      let p : b ≡ m = numbered_same Two b m x k.own in
      let q : c ≡ n = numbered_same One c n y h.own in
      omega (arith, h.own.small, k.own.small)

  active_one : (a b : Area) (n m : ℕ) → Active D s a n → Active D s b m → ◌≡◌ {A = Area × ℕ} (a, n) (b, m)
  active_one One One n m h k = ap (λ z. (One, z)) (numbered_same One n m h.own k.own)
  active_one One Two n m h k = absurd (not_both n m h k)
  active_one Two One n m h k = absurd (not_both m n k h)
  active_one Two Two n m h k = ap (λ z. (Two, z)) (numbered_same Two n m h.own k.own)

  active_formed : (a b : Area) (n : ℕ) → Active D s a n → Malformed D s b → ⊥
  active_formed One One n h (c, stuck) = stuck n h.own
  active_formed One Two n h (c, stuck) = let x = behind One n h c in stuck x.0 x.1
  active_formed Two One n h (c, stuck) = let x = behind Two n h c in stuck x.0 x.1
  active_formed Two Two n h (c, stuck) = stuck n h.own

  active_apart : (a : Area) (n k : ℕ) → Active D s a n → Numbered D One (s (trailer_at D One)) k → Numbered D Two (s (trailer_at D Two)) k → ⊥
  active_apart One n k h x y =
      let (b, z, e) = behind One n h (numbered_counts Two k y) in
      let p : n ≡ k = numbered_same One n k h.own x in
      let q : b ≡ k = numbered_same Two b k z y in
      omega (arith, x.small)
  active_apart Two n k h x y =
      let (b, z, e) = behind Two n h (numbered_counts One k x) in
      let p : n ≡ k = numbered_same Two n k h.own y in
      let q : b ≡ k = numbered_same One b k z x in
      omega (arith, x.small)

  active_bad : (a : Area) (n : ℕ) (f : Fault) → Active D s a n → BadTrailers f → ⊥
  active_bad One n f h (none e x y) = x (numbered_counts One n h.own)
  active_bad One n f h (first e x) = active_formed One One n h x
  active_bad One n f h (second e x y) = active_formed One Two n h y
  active_bad One n f h (same e k x y) = active_apart One n k h x y
  active_bad Two n f h (none e x y) = y (numbered_counts Two n h.own)
  active_bad Two n f h (first e x) = active_formed Two One n h x
  active_bad Two n f h (second e x y) = active_formed Two Two n h y
  active_bad Two n f h (same e k x y) = active_apart Two n k h x y

  bad_one : (f g : Fault) → BadTrailers f → BadTrailers g → f ≡ g
  bad_one f g (none e x y) (none d z w) = e ∙ sym d
  bad_one f g (none e x y) (first d z) = absurd (x z.0)
  bad_one f g (none e x y) (second d z w) = absurd (y w.0)
  bad_one f g (none e x y) (same d n z w) = absurd (x (numbered_counts One n z))
  bad_one f g (first e x) (none d z w) = absurd (z x.0)
  bad_one f g (first e x) (first d z) = e ∙ sym d
  bad_one f g (first e x) (second d z w) = absurd (z x)
  bad_one f g (first e x) (same d n z w) = absurd (x.1 n z)
  bad_one f g (second e x y) (none d z w) = absurd (w y.0)
  bad_one f g (second e x y) (first d z) = absurd (x z)
  bad_one f g (second e x y) (second d z w) = e ∙ sym d
  bad_one f g (second e x y) (same d n z w) = e ∙ sym d
  bad_one f g (same e n x y) (none d z w) = absurd (z (numbered_counts One n x))
  bad_one f g (same e n x y) (first d z) = absurd (z.1 n x)
  bad_one f g (same e n x y) (second d z w) = e ∙ sym d
  bad_one f g (same e n x y) (same d m z w) = e ∙ sym d

  pub area_one : OneResult AreaStage
  area_one (Ok x) (Ok y) h k = ap Ok (active_one x.0 y.0 x.1 y.1 h k)
  area_one (Ok x) (Err g) h k = absurd (active_bad x.0 x.1 g h k)
  area_one (Err f) (Ok y) h k = absurd (active_bad y.0 y.1 f k h)
  area_one (Err f) (Err g) h k = ap Err (bad_one f g h k)

  -- Entries

  abbrev pub EntryStage : Area → Result Table Fault → Type 0
  EntryStage area (Ok t) = Entered D s area (entry_pages D) t
  EntryStage area (Err f) = (j : ℕ) × (t : Table) × (f ≡ cache_fault (entry_page_at area j) Breach) × (j < entry_pages D) × Entered D s area j t
      × ((u : Table) → Entered D s area (suc j) u → ⊥)

  entered_down : (area : Area) (j k : ℕ) (t : Table) → j ≤ k → Entered D s area k t → Entered D s area j t
  entered_down area j k t l h =
      let below : 64 * j ≤ 64 * k = omega arith in
      record {
        long = h.long;
        pages = λ i x. h.pages i (omega arith);
        proper = subst (AllByRecursion ProperEntry) (take-take (64 * j) (64 * k) t below) (All-take ProperEntry (64 * j) (take (64 * k) t) h.proper);
        distinct = λ i i' a x y. h.distinct i i' a (omega arith) (omega arith);
      }

  module _ (small : D ≤ 448) (area : Area) (n : ℕ) (own : Numbered D area (s (trailer_at D area)) n) where
    whole : (t : Table) → Entered D s area (entry_pages D) t → laws.ProperTable t
    whole t h = record {
      few = omega (arith, h.long);
      each = subst (AllByRecursion ProperEntry) (take_all (64 * entry_pages D) t (omega (arith, h.long))) h.proper;
    }

    checkpoint : (t : Table) → Entered D s area (entry_pages D) t → Checkpoint s area t n
    checkpoint t h = record {
      entries = subst (λ k. (j : ℕ) → j < entry_pages k → s (entry_page_at area j) ≡ entry_page t j) (sym h.long) h.pages;
      trailer = subst (λ k. s (trailer_at k area) ≡ trailer_page area k n) (sym h.long) own.is;
    }

    pub base_one : (t u : Table) → Entered D s area (entry_pages D) t → Entered D s area (entry_pages D) u → t ≡ u
    base_one t u h k = (one_checkpoint s area t u n n (whole t h) (whole u k) (checkpoint t h) (checkpoint u k)).0

    pub entry_one : OneResult (EntryStage area)
    entry_one (Ok t) (Ok u) h k = ap Ok (base_one t u h k)
    entry_one (Ok t) (Err g) h (j, v, e, l, k, stuck) = absurd (stuck t (entered_down area (suc j) (entry_pages D) t l h))
    entry_one (Err f) (Ok u) (j, v, e, l, k, stuck) h = absurd (stuck u (entered_down area (suc j) (entry_pages D) u l h))
    entry_one (Err f) (Err g) (i, t, e, l, h, stuck) (j, u, d, m, k, halts) =
        ap Err (first_fault (entry_page_at area) i j f g e d (λ x. stuck u (entered_down area (suc i) j u x k)) (λ x. halts t (entered_down area (suc j) i t x h)))

  -- Log

  abbrev pub LogStage : Area → Table → Result (Table × ℕ) Fault → Type 0
  LogStage area t (Ok x) = Logged D s area (log_pages D) t x.0 x.1
  LogStage area t (Err f) = (j : ℕ) × (u : Table) × (m : ℕ) × (f ≡ cache_fault (log_page_at D area j) Breach) × (j < log_pages D) × Logged D s area j t u m
      × ((v : Table) (k : ℕ) → LogStep (s (log_page_at D area j)) j u m v k → ⊥)

  some_same : (t u : Table) → Some t ≡ Some u → t ≡ u
  some_same t u e = cc

  step_one : (x : State) (j : ℕ) (t : Table) (n : ℕ) (u v : Table) (m k : ℕ) → LogStep x j t n u m → LogStep x j t n v k → (u ≡ v) × (m ≡ k)
  step_one blank j t n u v m k (e, f) (d, g) = (e ∙ sym d, f ∙ sym g)
  step_one torn j t n u v m k (e, f) (d, g) = (e ∙ sym d, f ∙ sym g)
  step_one (held note bytes) j t n u v m k (rs, p, a, b, e, f) (ss, q, c, z, d, g) =
      let same : rs ≡ ss = one_log rs ss p q (ap₂ held (sym a ∙ c) (sym b ∙ z)) in
      (some_same u v (sym e ∙ ap (replayed (Some t)) same ∙ d), f ∙ sym g)

  pub logged_one : (area : Area) (j : ℕ) (t u v : Table) (m k : ℕ) → Logged D s area j t u m → Logged D s area j t v k → (u ≡ v) × (m ≡ k)
  logged_one area zero t u v m k (e, f) (d, g) = (e ∙ sym d, f ∙ sym g)
  logged_one area (suc j) t u v m k (u', m', h, x) (v', k', l, y) =
      let (a, b) = logged_one area j t u' v' m' k' h l in
      step_one (s (log_page_at D area j)) j v' k' u v m k (subst₂ (λ w z. LogStep (s (log_page_at D area j)) j w z u m) a b x) y

  -- a log that is read up to k was read up to page j and made a step there
  logged_step : (area : Area) (k j : ℕ) (t u : Table) (m : ℕ) → j < k → Logged D s area k t u m → (v : Table) × (n : ℕ) × Logged D s area (suc j) t v n
  logged_step area zero j t u m l h = absurd (omega arith)
  logged_step area (suc k) j t u m l (v, n, h, x) =
      ⊎_elim
      (λ (e : j ≡ k). (u, m, subst (λ z. Logged D s area (suc z) t u m) (sym e) (v, n, h, x)))
      (λ (ne : j ≡ k → ⊥). logged_step area k j t v n (omega arith) h)
      (cases_eq j k)

  -- so it did not stop there
  not_stopped : (area : Area) (k j : ℕ) (t u : Table) (m : ℕ) (v : Table) (n : ℕ) → j < k → Logged D s area k t u m → Logged D s area j t v n
      → ((w : Table) (i : ℕ) → LogStep (s (log_page_at D area j)) j v n w i → ⊥) → ⊥
  not_stopped area k j t u m v n l h g stuck =
      let (w, i, (v', n', g', x)) = logged_step area k j t u m l h in
      let (a, b) = logged_one area j t v' v n' n g' g in
      stuck w i (subst₂ (λ y z. LogStep (s (log_page_at D area j)) j y z w i) a b x)

  pub log_one : (area : Area) (t : Table) → OneResult (LogStage area t)
  log_one area t (Ok x) (Ok y) h k = let (a, b) = logged_one area (log_pages D) t x.0 y.0 x.1 y.1 h k in ap Ok (ap₂ (λ u m. (u, m)) a b)
  log_one area t (Ok x) (Err g) h (j, u, m, e, l, k, stuck) = absurd (not_stopped area (log_pages D) j t x.0 x.1 u m l h k stuck)
  log_one area t (Err f) (Ok y) (j, u, m, e, l, k, stuck) h = absurd (not_stopped area (log_pages D) j t y.0 y.1 u m l h k stuck)
  log_one area t (Err f) (Err g) (i, u, m, e, l, h, stuck) (j, v, n, d, o, k, halts) =
      ap Err (first_fault (log_page_at D area) i j f g e d (λ x. not_stopped area j i t v n u m x k h stuck) (λ x. not_stopped area i j t u m v n x h k halts))

  -- Data pages

  abbrev pub DataStage : Found → Result Found Fault → Type 0
  DataStage found (Ok f) = (f ≡ found) × Backed s found.table D
  DataStage found (Err f) = (i : ℕ) × (f ≡ cache_fault (data_page_at i) Breach) × (i < D) × Backed s found.table i × (Backed s found.table (suc i) → ⊥)

  backed_down : (t : Table) (j k : ℕ) → j ≤ k → Backed s t k → Backed s t j
  backed_down t j k l h i x y = h i (omega arith) y

  pub data_one : (found : Found) → OneResult (DataStage found)
  data_one found (Ok f) (Ok g) (e, h) (d, k) = ap Ok (e ∙ sym d)
  data_one found (Ok f) (Err g) (e, h) (i, d, l, k, stuck) = absurd (stuck (backed_down found.table (suc i) D l h))
  data_one found (Err f) (Ok g) (i, d, l, k, stuck) (e, h) = absurd (stuck (backed_down found.table (suc i) D l h))
  data_one found (Err f) (Err g) (i, e, l, h, stuck) (j, d, m, k, halts) =
      ap Err (first_fault data_page_at i j f g e d (λ x. stuck (backed_down found.table (suc i) j x k)) (λ x. halts (backed_down found.table (suc j) i x h)))
