-- The refusals of a pair's calls are those of the half that the place lies in, at the pair's place.
use Rattle.std.proofs.Common.{◌≡◌, ℕ, ◌+◌, ◌-◌, ◌*◌, ◌<◌, Bool, true, false, cond, ◌&&◌, eqb, ltb, Some, None, Decides, Option, sym, refl, ap, ◌∙◌, arith}
use Rattle.std.proofs.lemmas.Bool.Decides.{same_from_decides, Decides-like, Decides-and, Decides-eqb, Decides-ltb, Decides-below_or}
use Rattle.device.specs.declared.faults.Fault.{Fault}
use Rattle.device.specs.declared.faults.Refusal.TheVariants.{PowerOff, Unsettled}
use Rattle.device.specs.Cells.{Cell, reads, is_unsettled}
use Rattle.device.specs.Cells.Cell.{settled, unsettled}
use Rattle.device.specs.Faults.{chip_fault}
use Rattle.device.specs.Calls.{in_order}
use Rattle.device.specs.Chips.{State, Pages, page_count, block_of, read_at, program_at, unsettled_in, erase_refusal}
use Rattle.device.specs.Chips.State.{blank, torn, held}
use Rattle.pair.specs.Halves.{join}
use Rattle.pair.proofs.Joining.{moved, lit, first_cell, second_cell}

-- two tests of facts that follow from each other
pub same_eqb : (i p j k : ℕ) → (i ≡ p → j ≡ k) → (j ≡ k → i ≡ p) → eqb i p ≡ eqb j k
same_eqb i p j k f g = same_from_decides (eqb i p) (eqb j k) (Decides-eqb i p) (Decides-like (eqb j k) g f (Decides-eqb j k))

same_ltb : (i p j k : ℕ) → (i < p → j < k) → (j < k → i < p) → ltb i p ≡ ltb j k
same_ltb i p j k f g = same_from_decides (ltb i p) (ltb j k) (Decides-ltb i p) (Decides-like (ltb j k) g f (Decides-ltb j k))

-- The conditions of a pair and of its half, both on.
both_on : (whole inside : Bool) (p k : ℕ) (there : Option Fault)
    → in_order true (chip_fault p PowerOff) whole inside (chip_fault p) (moved p there) ≡ moved p (in_order true (chip_fault k PowerOff) whole inside (chip_fault k) there)
both_on true true p k there = refl
both_on true false p k there = refl
both_on false inside p k there = refl

pub in_order_moved : (on on' whole inside inside' : Bool) (p k : ℕ) (there there' : Option Fault) → on ≡ true → on' ≡ true → inside ≡ inside' → there ≡ moved p there'
    → in_order on (chip_fault p PowerOff) whole inside (chip_fault p) there ≡ moved p (in_order on' (chip_fault k PowerOff) whole inside' (chip_fault k) there')
in_order_moved on on' whole inside inside' p k there there' o o' i t = rw (o, o', i, t) (both_on whole inside' p k there')

pub in_order_lit : (on whole inside : Bool) (off : Fault) (k : ℕ) (there : Option Fault) → on ≡ true → lit there ≡ true
    → lit (in_order on off whole inside (chip_fault k) there) ≡ true
in_order_lit true true true off k there o t = t
in_order_lit true true false off k there o t = refl
in_order_lit true false inside off k there o t = refl
in_order_lit false whole inside off k there o t = grind arith

-- A read and a program look at one page.
abbrev pub page_refusal : (ℕ → Cell State → Option Fault) → Pages → ℕ → ℕ → Option Fault
page_refusal there m p len = in_order m.on (chip_fault p PowerOff) (eqb len 512) (ltb p (page_count m)) (chip_fault p) (there p (m.cell p))

module _ (there : ℕ → Cell State → Option Fault) (moves : (p k : ℕ) (c : Cell State) → there p c ≡ moved p (there k c)) (on : Bool) (a b : Pages) (p len : ℕ) (o : on ≡ true) where
  pub page_first : a.on ≡ true → p < page_count a → page_refusal there (join on a b) p len ≡ moved p (page_refusal there a p len)
  page_first oa l =
      in_order_moved on a.on (eqb len 512) (ltb p (8 * (a.size + b.size))) (ltb p (page_count a)) p p (there p ((join on a b).cell p)) (there p (a.cell p)) o oa
      (same_ltb p (8 * (a.size + b.size)) p (page_count a) (λ h. omega arith) (λ h. omega arith)) (ap (there p) (first_cell on a b p l) ∙ moves p p (a.cell p))

  pub page_second : (k : ℕ) → b.on ≡ true → p ≡ page_count a + k → page_refusal there (join on a b) p len ≡ moved p (page_refusal there b k len)
  page_second k ob e =
      in_order_moved on b.on (eqb len 512) (ltb p (8 * (a.size + b.size))) (ltb k (page_count b)) p k (there p ((join on a b).cell p)) (there k (b.cell k)) o ob
      (same_ltb p (8 * (a.size + b.size)) k (page_count b) (λ h. omega arith) (λ h. omega arith)) (ap (there p) (second_cell on a b p k e) ∙ moves p k (b.cell k))

pub read_moved : (p k : ℕ) (c : Cell State) → read_at p (reads c) ≡ moved p (read_at k (reads c))
read_moved p k (settled blank) = refl
read_moved p k (settled torn) = refl
read_moved p k (settled (held note bytes)) = refl
read_moved p k (unsettled was blank) = refl
read_moved p k (unsettled was torn) = refl
read_moved p k (unsettled was (held note bytes)) = refl

pub read_lit : (k : ℕ) (s : State) → lit (read_at k s) ≡ true
read_lit k blank = refl
read_lit k torn = refl
read_lit k (held note bytes) = refl

pub program_moved : (p k : ℕ) (c : Cell State) → program_at p c ≡ moved p (program_at k c)
program_moved p k (settled blank) = refl
program_moved p k (settled torn) = refl
program_moved p k (settled (held note bytes)) = refl
program_moved p k (unsettled was s) = refl

pub program_lit : (k : ℕ) (c : Cell State) → lit (program_at k c) ≡ true
program_lit k (settled blank) = refl
program_lit k (settled torn) = refl
program_lit k (settled (held note bytes)) = refl
program_lit k (unsettled was s) = refl

-- An erase looks at every page of its block.

abbrev UnsettledPage : (ℕ → Cell State) → ℕ → ℕ → Type 0
UnsettledPage pages b k = (p : ℕ) × (p < k) × ((block_of p ≡ b) × (is_unsettled (pages p) ≡ true))

-- what is asked of the pages: whether one of the first k in the block is unsettled
pub unsettled_decides : (pages : ℕ → Cell State) (b k : ℕ) → Decides (unsettled_in pages b k) (UnsettledPage pages b k)
unfolding unsettled_in
unsettled_decides pages b k =
    Decides-below_or (λ p. eqb (block_of p) b && is_unsettled (pages p)) (λ p. (block_of p ≡ b) × (is_unsettled (pages p) ≡ true)) (unsettled_in pages b)
    (λ p. Decides-and (eqb (block_of p) b) (is_unsettled (pages p)) (Decides-eqb (block_of p) b) ((λ e. e), (λ e. e))) refl (λ _. refl) k

unsettled_first : (on : Bool) (a b : Pages) (e : ℕ) → e < a.size → unsettled_in (join on a b).cell e (page_count (join on a b)) ≡ unsettled_in a.cell e (page_count a)
unsettled_first on a b e l =
    same_from_decides (unsettled_in (join on a b).cell e (page_count (join on a b))) (unsettled_in a.cell e (page_count a))
    (unsettled_decides (join on a b).cell e (page_count (join on a b)))
    (Decides-like (unsettled_in a.cell e (page_count a)) wider narrower (unsettled_decides a.cell e (page_count a)))
  where
    wider : UnsettledPage a.cell e (page_count a) → UnsettledPage (join on a b).cell e (page_count (join on a b))
    wider (p, h, (i, u)) = (p, omega arith, (i, ap is_unsettled (first_cell on a b p h) ∙ u))

    narrower : UnsettledPage (join on a b).cell e (page_count (join on a b)) → UnsettledPage a.cell e (page_count a)
    narrower (p, h, (i, u)) = let t : p < page_count a = omega arith in (p, t, (i, sym (ap is_unsettled (first_cell on a b p t)) ∙ u))

unsettled_second : (on : Bool) (a b : Pages) (e k : ℕ) → e ≡ a.size + k → unsettled_in (join on a b).cell e (page_count (join on a b)) ≡ unsettled_in b.cell k (page_count b)
unsettled_second on a b e k s =
    same_from_decides (unsettled_in (join on a b).cell e (page_count (join on a b))) (unsettled_in b.cell k (page_count b))
    (unsettled_decides (join on a b).cell e (page_count (join on a b)))
    (Decides-like (unsettled_in b.cell k (page_count b)) wider narrower (unsettled_decides b.cell k (page_count b)))
  where
    wider : UnsettledPage b.cell k (page_count b) → UnsettledPage (join on a b).cell e (page_count (join on a b))
    wider (p, h, (i, u)) = (page_count a + p, omega arith, (omega arith, ap is_unsettled (second_cell on a b (page_count a + p) p refl) ∙ u))

    narrower : UnsettledPage (join on a b).cell e (page_count (join on a b)) → UnsettledPage b.cell k (page_count b)
    narrower (p, h, (i, u)) =
        let t : p ≡ page_count a + (p - page_count a) = omega arith in
        (p - page_count a, omega arith, (omega arith, sym (ap is_unsettled (second_cell on a b p (p - page_count a) t)) ∙ u))

abbrev there_in : ℕ → Bool → Option Fault
there_in b u = cond u (Some (chip_fault b Unsettled)) None

there_moved : (p k : ℕ) (u : Bool) → there_in p u ≡ moved p (there_in k u)
there_moved p k true = refl
there_moved p k false = refl

there_lit : (k : ℕ) (u : Bool) → lit (there_in k u) ≡ true
there_lit k true = refl
there_lit k false = refl

pub erase_lit : (m : Pages) (b : ℕ) → m.on ≡ true → lit (erase_refusal m b) ≡ true
erase_lit m b o =
    in_order_lit m.on true (ltb b m.size) (chip_fault b PowerOff) b (there_in b (unsettled_in m.cell b (page_count m))) o
    (there_lit b (unsettled_in m.cell b (page_count m)))

module _ (on : Bool) (a b : Pages) (e : ℕ) (o : on ≡ true) where
  pub erase_first : a.on ≡ true → e < a.size → erase_refusal (join on a b) e ≡ moved e (erase_refusal a e)
  erase_first oa l =
      in_order_moved on a.on true (ltb e (a.size + b.size)) (ltb e a.size) e e (there_in e (unsettled_in (join on a b).cell e (page_count (join on a b))))
      (there_in e (unsettled_in a.cell e (page_count a))) o oa (same_ltb e (a.size + b.size) e a.size (λ h. omega arith) (λ h. omega arith))
      (ap (there_in e) (unsettled_first on a b e l) ∙ there_moved e e (unsettled_in a.cell e (page_count a)))

  pub erase_second : (k : ℕ) → b.on ≡ true → e ≡ a.size + k → erase_refusal (join on a b) e ≡ moved e (erase_refusal b k)
  erase_second k ob s =
      in_order_moved on b.on true (ltb e (a.size + b.size)) (ltb k b.size) e k (there_in e (unsettled_in (join on a b).cell e (page_count (join on a b))))
      (there_in k (unsettled_in b.cell k (page_count b))) o ob (same_ltb e (a.size + b.size) k b.size (λ h. omega arith) (λ h. omega arith))
      (ap (there_in e) (unsettled_second on a b e k s) ∙ there_moved e k (unsettled_in b.cell k (page_count b)))
