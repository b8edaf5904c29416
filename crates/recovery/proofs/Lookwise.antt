-- What a refused look at a page says of the chip.
use Rattle.std.proofs.Common.{◌≡◌, ℕ, ◌*◌, ◌<◌, Bool, true, false, cond, List, length, Some, None, Err, Option, sym, refl, ap, ◌∙◌, inl, inr, arith}
use Rattle.std.proofs.lemmas.Bool.{eq-eqb, lt-ltb}
use Rattle.device.specs.declared.faults.Fault.{Fault}
use Rattle.device.specs.declared.faults.Refusal.{Refusal}
use Rattle.device.specs.declared.faults.Refusal.TheVariants.{PowerOff, Torn, Blank}
use Rattle.device.specs.Cells.{reads, Early}
use Rattle.device.specs.Calls.{Halted}
use Rattle.device.specs.Faults.{chip_fault}
use Rattle.device.specs.Chips.{State, Pages, Reads, read_at}
use Rattle.device.specs.Chips.State.{blank, torn, held}
use Rattle.recovery.specs.Looking.{Quiet, Lost}

pub quiet_none : (m n : Pages) → n ≡ m → Quiet m n
quiet_none m n e = record { size = ap (λ z. z.size) e; cells = λ q. inl (ap (λ z. z.cell q) e) }

-- looks one after another
pub quiet_then : (m n k : Pages) → Quiet m n → Quiet n k → Quiet m k
quiet_then m n k a b = record { size = b.size ∙ a.size; cells = λ q. both (a.cells q) (b.cells q) }
  where
    both : {q : ℕ} → Early (m.cell q) (n.cell q) → Early (n.cell q) (k.cell q) → Early (m.cell q) (k.cell q)
    both (inl x) (inl y) = inl (y ∙ x)
    both (inr x) (inl y) = inr (y ∙ x)
    both (inl x) (inr y) = inr (y ∙ ap (λ z. Rattle.device.specs.Cells.Cell.settled (reads z)) x)
    both (inr x) (inr y) = inr (y ∙ ap (λ z. Rattle.device.specs.Cells.Cell.settled (reads z)) x)

pub quiet_shown : (m n : Pages) → Quiet m n → (q : ℕ) → reads (n.cell q) ≡ reads (m.cell q)
quiet_shown m n h q = go (h.cells q)
  where
    go : Early (m.cell q) (n.cell q) → reads (n.cell q) ≡ reads (m.cell q)
    go (inl e) = ap reads e
    go (inr e) = ap reads e

-- a chip that is on refuses a read of a page that is there only for what the page is
only_page : (on : Bool) (p : ℕ) (s : State) (f : Fault) → cond on (read_at p s) (Some (chip_fault p PowerOff)) ≡ Some f → (f.refusal ≡ Torn → ⊥) → (f.refusal ≡ Blank → ⊥)
    → (on ≡ false) × (f ≡ chip_fault p PowerOff)
only_page true p blank f e a b = absurd (b (ap refusal_of (sym e)))
  where
    refusal_of : Option Fault → Refusal
    refusal_of None = PowerOff
    refusal_of (Some x) = x.refusal
only_page true p torn f e a b = absurd (a (ap refusal_of (sym e)))
  where
    refusal_of : Option Fault → Refusal
    refusal_of None = PowerOff
    refusal_of (Some x) = x.refusal
only_page true p (held note bytes) f e a b = grind arith
only_page false p s f e a b = (refl, cc)

pub look_lost : (m n : Pages) (p : ℕ) (buf after : List ℕ) (f : Fault) → p < 8 * m.size → length buf ≡ 512 → Reads m p buf (Err f) after n → (f.refusal ≡ Torn → ⊥)
    → (f.refusal ≡ Blank → ⊥) → Quiet m n × Lost f n
look_lost m n p buf after f l whole (_, inl (e, same)) a b =
    let t : cond m.on (read_at p (reads (m.cell p))) (Some (chip_fault p PowerOff)) ≡ Some f =
    rw (eq-eqb (length buf) 512 whole, lt-ltb p (8 * m.size) l) at e in
    let k = only_page m.on p (reads (m.cell p)) f t a b in
    (quiet_none m n same, (ap (λ z. z.on) same ∙ k.0, (p, k.1)))
look_lost m n p buf after f l whole (_, inr (e, lost, k)) a b = (record { size = k.size; cells = λ q. as_was (k.cells q) }, (k.power, (p, lost)))
  where
    as_was : {q : ℕ} → Halted m m.cell q (n.cell q) → Early (m.cell q) (n.cell q)
    as_was (inl x) = inl x
    as_was (inr x) = inl x
