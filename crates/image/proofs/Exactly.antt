-- What an image device does exactly is what the rules of its kind allow.
use Rattle.std.proofs.Common.{◌≡◌, ℕ, ◌/◌, Bool, true, false, cond, List, length, Some, None, Ok, Err, Option, Result, refl, ap, ◌∙◌, inl, inr, arith}
use Rattle.device.specs.declared.faults.Fault.{Fault}
use Rattle.device.specs.Cells.{Cell, Meaning, Becomes}
use Rattle.device.specs.Calls.{Call}
use Rattle.image.specs.Exact.{View, Counted, Switched}
use Rattle.std.proofs.Common.{◌-◌, ◌≤◌, [], ◌∷◌, get_or, take, drop}
use Rattle.std.proofs.lemmas.List.{take_rest}
use Rattle.device.specs.Calls.{Served}
use Rattle.image.specs.Exact.{Looked, next_fuse, later_fuses}

-- images of one length have as many blocks
pub as_many : (k : ℕ) (xs ys : List ℕ) → length ys ≡ length xs → length ys / k ≡ length xs / k
as_many k xs ys e = ap (λ n. n / k) e

-- a call whose only refusal is for want of power is not refused: then power is on
pub on_if : (on : Bool) (f : Fault) → cond on None (Some f) ≡ None → on ≡ true
on_if true f h = refl
on_if false f h = grind arith

-- A kind of device, by how many cells the bytes of an image have and what each is.
module _ {S : Type 0} (size : List ℕ → ℕ) (cell : List ℕ → ℕ → Cell S) (sized : (xs ys : List ℕ) → length ys ≡ length xs → size ys ≡ size xs) where
  abbrev pub means : View → Meaning S
  means v = record { on = v.power.on; size = size v.bytes; cell = cell v.bytes }

  module _ (refusal : Option Fault) (lost : Fault) (v w : View) (changed : List ℕ → Type 0) (served halted : ℕ → Cell S → Type 0) where
    pub counted_call : (r : Result (Unit {0}) Fault) → (refusal ≡ None → v.power.on ≡ true)
        → (refusal ≡ None → changed w.bytes → length w.bytes ≡ length v.bytes → (q : ℕ) → served q (cell w.bytes q))
        → ((q : ℕ) → halted q (cell v.bytes q))
        → Counted refusal lost v changed r w → Call refusal lost (means v) served halted (λ _. Unit {0}) (Unit {0}) r (means w)
    counted_call (Ok x) on each kept (e, _, c, len, is) =
        (e, tt, record { power = ap (λ z. z.power.on) is ∙ on e; size = sized v.bytes w.bytes len; cells = each e c len })
    counted_call (Err f) on each kept (inl (e, is)) = (tt, inl (e, ap means is))
    counted_call (Err f) on each kept (inr (e, _, l, is)) =
        (tt, inr (e, l, record { power = ap (λ z. z.power.on) is; size = ap (λ z. size z.bytes) is; cells = λ q. rw (ap (λ z. z.bytes) is) (kept q) }))

  pub switched_call : (v w : View) (changed : List ℕ → Type 0) (each : ℕ → Cell S → Type 0)
      → (changed w.bytes → length w.bytes ≡ length v.bytes → (q : ℕ) → each q (cell w.bytes q))
      → Switched v changed w → Becomes true (means v) each (means w)
  switched_call v w changed each h (c, len, is) =
      record { power = ap (λ z. z.power.on) is; size = sized v.bytes w.bytes len; cells = h c len }

-- the fuse that comes next, and those after it
pub next_is : (xs : List ℕ) → 1 ≤ length xs → Some (get_or xs 0 0) ≡ next_fuse xs
next_is [] h = absurd (omega arith)
next_is (n ∷ more) h = refl

pub later_is : (xs : List ℕ) → 1 ≤ length xs → take (length xs - 1) (drop 1 xs) ≡ later_fuses xs
later_is [] h = absurd (omega arith)
later_is (n ∷ more) h = take_rest (n ∷ more) 1

-- a call that changes nothing
module _ {S : Type 0} (size : List ℕ → ℕ) (cell : List ℕ → ℕ → Cell S) where
  pub looked_call : {T : Type 0} (refusal : Option Fault) (lost : Fault) (v : View) (halted : ℕ → Cell S → Type 0) (ok : T → Type 0) (same : Type 0) (r : Result T Fault)
      → (refusal ≡ None → v.power.on ≡ true) → Looked refusal ok same r
      → Call refusal lost (record { on = v.power.on; size = size v.bytes; cell = cell v.bytes }) (Served (cell v.bytes)) halted ok same r
      (record { on = v.power.on; size = size v.bytes; cell = cell v.bytes })
  looked_call refusal lost v halted ok same (Ok x) on (e, o) = (e, o, record { power = on e; size = refl; cells = λ q. inl refl })
  looked_call refusal lost v halted ok same (Err f) on (e, s) = (s, inl (e, refl))
