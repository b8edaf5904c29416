-- What early settling and power cuts leave of a cell, over any states, and what that says of a whole call.
use Rattle.std.proofs.Common.{◌≡◌, ℕ, Bool, true, false, ◌⊎◌, Some, None, Ok, Err, Option, Result, sym, refl, ap, ◌∙◌, subst, inl, inr, arith}
use Rattle.device.specs.declared.faults.Fault.{Fault}
use Rattle.device.specs.declared.faults.Refusal.{Refusal}
use Rattle.device.specs.Cells.{Cell, Meaning, reads, Early, Ends, Cut, Leaves}
use Rattle.device.specs.Cells.Cell.{settled, unsettled}
use Rattle.device.specs.Calls.{Call, Served, Halted, wanted, in_order}

-- a call that its conditions allow found each of them met
pub in_order_met : (on : Bool) (off : Fault) (whole inside : Bool) (named : Refusal → Fault) (there : Option Fault) → in_order on off whole inside named there ≡ None
    → (on ≡ true) × (whole ≡ true) × (inside ≡ true) × (there ≡ None)
in_order_met true off true true named there h = (refl, refl, refl, h)
in_order_met true off true false named there h = grind arith
in_order_met true off false inside named there h = grind arith
in_order_met false off whole inside named there h = grind arith

-- and it is so allowed where each is met
pub in_order_none : (on : Bool) (off : Fault) (whole inside : Bool) (named : Refusal → Fault) (there : Option Fault) → on ≡ true → whole ≡ true → inside ≡ true
    → in_order on off whole inside named there ≡ there
in_order_none on off whole inside named there o w i = rw (o, w, i)

pub early_reads : {S : Type 0} (c d : Cell S) → Early c d → reads d ≡ reads c
early_reads c d (inl e) = ap reads e
early_reads c d (inr e) = ap reads e

pub early_settled : {S : Type 0} (s : S) (d : Cell S) → Early (settled s) d → d ≡ settled s
early_settled s d (inl e) = e
early_settled s d (inr e) = e

-- a cut may leave a cell as it reads
pub ends_reads : {S : Type 0} (O : S → Type 0) (c : Cell S) (s : S) → s ≡ reads c → Ends O c s
ends_reads O (settled x) s e = e
ends_reads O (unsettled was x) s e = inr (inl e)

-- settling early leaves no new way
pub early_ends : {S : Type 0} (O : S → Type 0) (c d : Cell S) (s : S) → Early c d → Ends O d s → Ends O c s
early_ends O c d s (inl e) h = subst (λ z. Ends O z s) e h
early_ends O c d s (inr e) h = let t : s ≡ reads c = subst (λ z. Ends O z s) e h in ends_reads O c s t

-- a cut leaves no new way for a second one
pub cut_ends : {S : Type 0} (O : S → Type 0) (c d : Cell S) (s : S) → Cut O c d → Ends O d s → Ends O c s
cut_ends O c d s (x, e, k) h = let t : s ≡ x = subst (λ z. Ends O z s) e h in subst (Ends O c) (sym t) k

-- The ways of a cut after a whole call: W are the cells to be shown, and each outcome leaves nothing but a way of W.
module _ {S T : Type 0} (O : S → Type 0) (refusal : Option Fault) (lost : Fault) (m n : Meaning S) (served halted : ℕ → Cell S → Type 0) (ok : T → Type 0) (same : Type 0) (W : ℕ → Cell S) (s : ℕ → S) where
  abbrev pub KeepsWays : (ℕ → Cell S → Type 0) → Type 0
  KeepsWays each = (i : ℕ) (c : Cell S) → each i c → Ends O c (s i) → Ends O (W i) (s i)

  pub call_cuts : (r : Result T Fault)
      → ((f : Fault) → refusal ≡ Some f → KeepsWays (λ i c. c ≡ m.cell i))
      → (refusal ≡ None → KeepsWays served)
      → (refusal ≡ None → KeepsWays halted)
      → Call refusal lost m served halted ok same r n → Leaves O n.cell s → Leaves O W s
  call_cuts (Ok x) a b c (e, _, k) h i = b e i (n.cell i) (k.cells i) (h i)
  call_cuts (Err f) a b c (_, inl (e, k)) h i = a f e i (n.cell i) (ap (λ z. z.cell i) k) (h i)
  call_cuts (Err f) a b c (_, inr (e, _, k)) h i = c e i (n.cell i) (k.cells i) (h i)

-- The same where every outcome settles early, or leaves cells as they were or as wanted.
module _ {S : Type 0} (O : S → Type 0) (m : Meaning S) (want : ℕ → Cell S) (s : ℕ → S) where
  pub served_ways : (i : ℕ) (c : Cell S) → Served want i c → Ends O c (s i) → Ends O (want i) (s i)
  served_ways i c e h = early_ends O (want i) c (s i) e h

  pub halted_ways : ((i : ℕ) → Ends O (m.cell i) (s i) → Ends O (want i) (s i)) → (i : ℕ) (c : Cell S) → Halted m want i c → Ends O c (s i) → Ends O (want i) (s i)
  halted_ways widens i c (inl e) h = widens i (subst (λ z. Ends O z (s i)) e h)
  halted_ways widens i c (inr e) h = subst (λ z. Ends O z (s i)) e h

  -- a call that wants cells as they were
  pub same_ways : (i : ℕ) (c : Cell S) → c ≡ m.cell i → Ends O c (s i) → Ends O (m.cell i) (s i)
  same_ways i c e h = subst (λ z. Ends O z (s i)) e h

  -- a sync
  pub sync_ways : (i : ℕ) (c : Cell S) → Served (λ q. settled (reads (m.cell q))) i c → Ends O c (s i) → Ends O (m.cell i) (s i)
  sync_ways i c e h = let t : s i ≡ reads (m.cell i) = subst (λ z. Ends O z (s i)) (early_settled _ _ e) h in ends_reads O (m.cell i) (s i) t

  pub sync_halted_ways : (i : ℕ) (c : Cell S) → Halted m (λ q. settled (reads (m.cell q))) i c → Ends O c (s i) → Ends O (m.cell i) (s i)
  sync_halted_ways i c (inl e) h = same_ways i c e h
  sync_halted_ways i c (inr e) h = sync_ways i c (inl e) h

  -- a power-on
  pub power_ways : (i : ℕ) (c : Cell S) → Cut O (m.cell i) c → Ends O c (s i) → Ends O (m.cell i) (s i)
  power_ways i c k h = cut_ends O (m.cell i) c (s i) k h

  pub power_halted_ways : (i : ℕ) (c : Cell S) → (c ≡ m.cell i) ⊎ Cut O (m.cell i) c → Ends O c (s i) → Ends O (m.cell i) (s i)
  power_halted_ways i c (inl e) h = same_ways i c e h
  power_halted_ways i c (inr k) h = power_ways i c k h

-- the cells as wanted, by whether the conditions refuse
pub wanted_none : {S : Type 0} (refusal : Option Fault) (m : Meaning S) (want : ℕ → Cell S) (P : Cell S → Type 0) (i : ℕ) → refusal ≡ None → P (want i) → P (wanted refusal m want i)
wanted_none refusal m want P i e h = rw e h

pub wanted_some : {S : Type 0} (refusal : Option Fault) (m : Meaning S) (want : ℕ → Cell S) (P : Cell S → Type 0) (i : ℕ) (f : Fault) → refusal ≡ Some f → P (m.cell i) → P (wanted refusal m want i)
wanted_some refusal m want P i f e h = rw e h

-- What every cell reads after a call that wants nothing to read otherwise.
pub call_reads_same : {S T : Type 0} (refusal : Option Fault) (lost : Fault) (m n : Meaning S) (want : ℕ → Cell S) (ok : T → Type 0) (same : Type 0)
    → ((i : ℕ) → reads (want i) ≡ reads (m.cell i)) → (r : Result T Fault) → Call refusal lost m (Served want) (Halted m want) ok same r n
    → (q : ℕ) → reads (n.cell q) ≡ reads (m.cell q)
call_reads_same refusal lost m n want ok same w (Ok x) (_, _, k) q = early_reads _ _ (k.cells q) ∙ w q
call_reads_same refusal lost m n want ok same w (Err f) (_, inl (_, k)) q = ap (λ z. reads (z.cell q)) k
call_reads_same refusal lost m n want ok same w (Err f) (_, inr (_, _, k)) q = go (k.cells q)
  where
    go : Halted m want q (n.cell q) → reads (n.cell q) ≡ reads (m.cell q)
    go (inl e) = ap reads e
    go (inr e) = ap reads e ∙ w q
