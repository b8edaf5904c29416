-- Cells beside each other: what each half's cells do, the cells of the whole do, and so a call on a half is a call on the whole.
use Rattle.std.proofs.Common.{◌≡◌, ℕ, ◌+◌, ◌-◌, ◌*◌, ◌<◌, ◌≤◌, Bool, true, false, cond, not, eqb, ltb, ◌⊎◌, Some, None, Ok, Err, Option, Result, sym, refl, ap, ◌∙◌, subst, inl, inr, arith}
use Rattle.std.proofs.lemmas.Bool.{lt-ltb, le-ltb}
use Rattle.device.specs.declared.faults.Fault.{Fault}
use Rattle.device.specs.declared.faults.Refusal.TheVariants.{PowerOff}
use Rattle.device.specs.Cells.{Cell, Becomes, Early}
use Rattle.device.specs.Faults.{chip_fault, refusal_number}
use Rattle.device.specs.Calls.{Call, Served, Halted}
use Rattle.device.specs.Chips.{State, Pages, page_count}
use Rattle.pair.specs.Halves.{beside, join, Paired, placed, placed_at, keeps_power}
use Rattle.std.proofs.lemmas.Bool.{true≢false}

-- a refusal at the place that the pair was given
abbrev pub moved : ℕ → Option Fault → Option Fault
moved p None = None
moved p (Some f) = Some (placed p f)

-- a refusal of a chip that is on
abbrev pub lit : Option Fault → Bool
lit None = true
lit (Some f) = not (eqb (refusal_number f.refusal) 1)

pub first_cell : (on : Bool) (a b : Pages) (p : ℕ) → p < page_count a → (join on a b).cell p ≡ a.cell p
first_cell on a b p l = rw (lt-ltb p (page_count a) l)

pub second_cell : (on : Bool) (a b : Pages) (p k : ℕ) → p ≡ page_count a + k → (join on a b).cell p ≡ b.cell k
second_cell on a b p k e =
    let t : p - page_count a ≡ k = omega arith in
    let l : page_count a ≤ p = omega arith in
    rw (le-ltb p (page_count a) l, t)

-- E says something of a cell before, as wanted, and after
module _ (E : Cell State → Cell State → Cell State → Type 0) where
  chosen : (t : Bool) (x w c x' w' c' : Cell State) → E x w c → E x' w' c' → E (cond t x x') (cond t w w') (cond t c c')
  chosen true x w c x' w' c' h h' = h
  chosen false x w c x' w' c' h h' = h'

  -- if it holds of each cell of both halves, then of each cell of the whole
  pub join_becomes : (on was : Bool) (a b a' b' : Pages) (wa wb want : ℕ → Cell State) → a'.size ≡ a.size → b'.size ≡ b.size
      → ((i : ℕ) → want i ≡ beside (page_count a) wa wb i)
      → ((i : ℕ) → E (a.cell i) (wa i) (a'.cell i)) → ((i : ℕ) → E (b.cell i) (wb i) (b'.cell i))
      → Becomes on (join was a b) (λ i c. E ((join was a b).cell i) (want i) c) (join on a' b')
  join_becomes on was a b a' b' wa wb want s t w ha hb = record {
    power = refl;
    size = rw (s, t);
    cells = λ i.
        let each : E ((join was a b).cell i) (beside (page_count a) wa wb i) (beside (page_count a) a'.cell b'.cell i) =
        chosen (ltb i (page_count a)) (a.cell i) (wa i) (a'.cell i) (b.cell (i - page_count a)) (wb (i - page_count a)) (b'.cell (i - page_count a)) (ha i) (hb (i - page_count a)) in
        let at : E ((join was a b).cell i) (want i) (beside (page_count a) a'.cell b'.cell i) =
        subst (λ z. E ((join was a b).cell i) z (beside (page_count a) a'.cell b'.cell i)) (sym (w i)) each in
        subst (λ z. E ((join was a b).cell i) (want i) (beside z a'.cell b'.cell i)) (sym (ap (λ z. 8 * z) s)) at;
  }

-- A call on a half, at the place k, is one on the whole, at p: the refusal is the half's at that place, and what is left of the half makes the whole.
module _ {T : Type 0} (R H : Option Fault) (p k : ℕ) (m h h' : Pages) (n : Bool → Pages) (served halted served' halted' : ℕ → Cell State → Type 0) (ok : T → Type 0) (same : Type 0) (moves : R ≡ moved p H) (power : lit H ≡ true) (kept : h' ≡ h → n true ≡ m) (serves : Becomes true h served h' → Becomes true m served' (n true)) (halts : Becomes false h halted h' → Becomes false m halted' (n false)) where
  lifted : (r : Result T Fault) → Call H (chip_fault k PowerOff) h served halted ok same r h'
      → Call R (chip_fault p PowerOff) m served' halted' ok same (placed_at p r) (n (keeps_power r))
  lifted (Ok x) (e, o, b) = (moves ∙ ap (moved p) e, o, serves b)
  lifted (Err f) (s, inl (e, u)) =
      let on : keeps_power {T = T} (Err f) ≡ true = subst (λ z. lit z ≡ true) e power in
      (s, inl (moves ∙ ap (moved p) e, ap n on ∙ kept u))
  lifted (Err f) (s, inr (e, l, b)) =
      let off : keeps_power {T = T} (Err f) ≡ false = ap (λ z. not (eqb (refusal_number z.refusal) 1)) l in
      (s, inr (moves ∙ ap (moved p) e, ap (placed p) l, subst (λ z. Becomes false m halted' (n z)) (sym off) (halts b)))

-- Calls that leave each cell as wanted or settled early, and on a power failure as before or as wanted.
module _ {T : Type 0} (on : Bool) (a b : Pages) (R H : Option Fault) (p k : ℕ) (w want : ℕ → Cell State) (ok : T → Type 0) (same : Type 0) (pd : Paired on a b) (o : on ≡ true) (moves : R ≡ moved p H) (power : lit H ≡ true) where
  pub first_call : (a' : Pages) → ((i : ℕ) → want i ≡ beside (page_count a) w b.cell i)
      → (r : Result T Fault) → Call H (chip_fault k PowerOff) a (Served w) (Halted a w) ok same r a'
      → Call R (chip_fault p PowerOff) (join on a b) (Served want) (Halted (join on a b) want) ok same (placed_at p r) (join (keeps_power r) a' b)
  first_call a' ws =
      lifted R H p k (join on a b) a a' (λ z. join z a' b) (Served w) (Halted a w) (Served want) (Halted (join on a b) want) ok same moves power
      (λ u. ap (λ z. join true z b) u ∙ ap (λ z. join z a b) (sym o))
      (λ s. join_becomes (λ x y z. Early y z) true on a b a' b w b.cell want s.size refl ws s.cells (λ i. inl refl))
      (λ s. join_becomes (λ x y z. (z ≡ x) ⊎ (z ≡ y)) false on a b a' b w b.cell want s.size refl ws s.cells (λ i. inl refl))

  pub second_call : (b' : Pages) → ((i : ℕ) → want i ≡ beside (page_count a) a.cell w i)
      → (r : Result T Fault) → Call H (chip_fault k PowerOff) b (Served w) (Halted b w) ok same r b'
      → Call R (chip_fault p PowerOff) (join on a b) (Served want) (Halted (join on a b) want) ok same (placed_at p r) (join (keeps_power r) a b')
  second_call b' ws =
      lifted R H p k (join on a b) b b' (λ z. join z a b') (Served w) (Halted b w) (Served want) (Halted (join on a b) want) ok same moves power
      (λ u. ap (λ z. join true a z) u ∙ ap (λ z. join z a b) (sym o))
      (λ s. join_becomes (λ x y z. Early y z) true on a b a b' a.cell w want refl s.size ws (λ i. inl refl) s.cells)
      (λ s. join_becomes (λ x y z. (z ≡ x) ⊎ (z ≡ y)) false on a b a b' a.cell w want refl s.size ws (λ i. inl refl) s.cells)

-- A half that was on is on after a call unless power failed in it, and as large as it was.
pub half_after : {T : Type 0} (H : Option Fault) (k : ℕ) (h h' : Pages) (served halted : ℕ → Cell State → Type 0) (ok : T → Type 0) (same : Type 0)
    (r : Result T Fault) → h.on ≡ true → Call H (chip_fault k PowerOff) h served halted ok same r h' → (keeps_power r ≡ true → h'.on ≡ true) × (h'.size ≡ h.size)
half_after H k h h' served halted ok same (Ok x) o (_, _, b) = ((λ _. b.power), b.size)
half_after H k h h' served halted ok same (Err f) o (_, inl (_, u)) = ((λ _. ap (λ z. z.on) u ∙ o), ap (λ z. z.size) u)
half_after H k h h' served halted ok same (Err f) o (_, inr (_, l, b)) =
    ((λ t. absurd (true≢false (sym t ∙ ap (λ z. not (eqb (refusal_number z.refusal) 1)) l))), b.size)

-- A call on a half is one on the whole, by an answer and a chip that are known to be those.
module _ {T : Type 0} (R H : Option Fault) (p k : ℕ) (m h h' : Pages) (n : Bool → Pages) (served halted served' halted' : ℕ → Cell State → Type 0) (ok : T → Type 0) (same : Type 0) (moves : R ≡ moved p H) (power : lit H ≡ true) (kept : h' ≡ h → n true ≡ m) (serves : Becomes true h served h' → Becomes true m served' (n true)) (halts : Becomes false h halted h' → Becomes false m halted' (n false)) where
  pub lifted_to : (r r' : Result T Fault) (n' : Pages) → r' ≡ placed_at p r → n' ≡ n (keeps_power r) → Call H (chip_fault k PowerOff) h served halted ok same r h'
      → Call R (chip_fault p PowerOff) m served' halted' ok same r' n'
  lifted_to r r' n' e u c =
      let x : Call R (chip_fault p PowerOff) m served' halted' ok same r' (n (keeps_power r)) =
      subst (λ z. Call R (chip_fault p PowerOff) m served' halted' ok same z (n (keeps_power r))) (sym e) (lifted R H p k m h h' n served halted served' halted' ok same moves power kept serves halts r c) in
      subst (λ z. Call R (chip_fault p PowerOff) m served' halted' ok same r' z) (sym u) x
