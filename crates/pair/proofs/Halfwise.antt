-- Read, program and erase of a pair, in its first and in its second half.
use Rattle.std.proofs.Common.{◌≡◌, ℕ, ◌+◌, ◌-◌, ◌<◌, ◌≤◌, Bool, true, eqb, ltb, List, length, Result, refl, ⊎_elim, arith}
use Rattle.std.proofs.lemmas.Bool.{lt-ltb, le-ltb, ne_eqb, cases_lt}
use Rattle.device.specs.declared.faults.Fault.{Fault}
use Rattle.device.specs.declared.faults.Refusal.TheVariants.{PowerOff}
use Rattle.device.specs.Cells.{reads}
use Rattle.device.specs.Faults.{chip_fault}
use Rattle.device.specs.Chips.{Note, Pages, page_count, block_of, read_at, read_refusal, Reads, program_at, program_refusal, programmed, Programs, erase_refusal, erased_block, Erases}
use Rattle.device.specs.Chips.State.{held}
use Rattle.pair.specs.Halves.{beside, join, Paired, placed_at, keeps_power}
use Rattle.pair.proofs.Joining.{first_cell, second_cell, first_call, second_call}
use Rattle.pair.proofs.Refusing.{same_eqb, in_order_lit, page_first, page_second, read_moved, read_lit, program_moved, program_lit, erase_lit, erase_first, erase_second}

-- What a call wants of the pair is what it wants of the half, beside the other half as it is.

programmed_first : (on : Bool) (a b : Pages) (p : ℕ) (note : Note) (bytes : List ℕ) → p < page_count a
    → (i : ℕ) → programmed (join on a b) p note bytes i ≡ beside (page_count a) (programmed a p note bytes) b.cell i
programmed_first on a b p note bytes l i =
    ⊎_elim
    (λ (h : i < page_count a). rw (lt-ltb i (page_count a) h))
    (λ (h : page_count a ≤ i). rw (le-ltb i (page_count a) h, ne_eqb i p (λ e. omega arith)))
    (cases_lt i (page_count a))

programmed_second : (on : Bool) (a b : Pages) (p k : ℕ) (note : Note) (bytes : List ℕ) → p ≡ page_count a + k
    → (i : ℕ) → programmed (join on a b) p note bytes i ≡ beside (page_count a) a.cell (programmed b k note bytes) i
programmed_second on a b p k note bytes s i =
    ⊎_elim
    (λ (h : i < page_count a). rw (lt-ltb i (page_count a) h, ne_eqb i p (λ e. omega arith)))
    (λ (h : page_count a ≤ i). rw (le-ltb i (page_count a) h, same_eqb i p (i - page_count a) k (λ e. omega arith) (λ e. omega arith)))
    (cases_lt i (page_count a))

erased_first : (on : Bool) (a b : Pages) (e : ℕ) → e < a.size
    → (i : ℕ) → erased_block (join on a b) e i ≡ beside (page_count a) (erased_block a e) b.cell i
erased_first on a b e l i =
    ⊎_elim
    (λ (h : i < page_count a). rw (lt-ltb i (page_count a) h))
    (λ (h : page_count a ≤ i). rw (le-ltb i (page_count a) h, ne_eqb (block_of i) e (λ t. omega arith)))
    (cases_lt i (page_count a))

erased_second : (on : Bool) (a b : Pages) (e k : ℕ) → e ≡ a.size + k
    → (i : ℕ) → erased_block (join on a b) e i ≡ beside (page_count a) a.cell (erased_block b k) i
erased_second on a b e k s i =
    ⊎_elim
    (λ (h : i < page_count a). rw (lt-ltb i (page_count a) h, ne_eqb (block_of i) e (λ t. omega arith)))
    (λ (h : page_count a ≤ i). rw (le-ltb i (page_count a) h, same_eqb (block_of i) e (block_of (i - page_count a)) k (λ t. omega arith) (λ t. omega arith)))
    (cases_lt i (page_count a))

-- A call in the first half.
module _ {on : Bool} {a b : Pages} (pd : Paired on a b) (o : on ≡ true) (a' : Pages) (p : ℕ) where
  pub read_first : (buf after : List ℕ) → p < page_count a → (r : Result Note Fault)
      → Reads a p buf r after a' → Reads (join on a b) p buf (placed_at p r) after (join (keeps_power r) a' b)
  read_first buf after l r c =
      first_call on a b (read_refusal (join on a b) p (length buf)) (read_refusal a p (length buf)) p p a.cell (join on a b).cell
      (λ note. reads ((join on a b).cell p) ≡ held note after) (after ≡ buf) pd o
      (page_first (λ q z. read_at q (reads z)) read_moved on a b p (length buf) o (pd.first_on o) l)
      (in_order_lit a.on (eqb (length buf) 512) (ltb p (page_count a)) (chip_fault p PowerOff) p (read_at p (reads (a.cell p))) (pd.first_on o) (read_lit p (reads (a.cell p))))
      a' (λ i. refl) r (rw (first_cell on a b p l) c)

  pub program_first : (note : Note) (bytes : List ℕ) → p < page_count a → (r : Result (Unit {0}) Fault) → Programs a p note bytes r a' → Programs (join on a b) p note bytes (placed_at p r) (join (keeps_power r) a' b)
  program_first note bytes l =
      first_call on a b (program_refusal (join on a b) p (length bytes)) (program_refusal a p (length bytes)) p p (programmed a p note bytes)
      (programmed (join on a b) p note bytes) (λ _. Unit {0}) (Unit {0}) pd o (page_first program_at program_moved on a b p (length bytes) o (pd.first_on o) l)
      (in_order_lit a.on (eqb (length bytes) 512) (ltb p (page_count a)) (chip_fault p PowerOff) p (program_at p (a.cell p)) (pd.first_on o) (program_lit p (a.cell p)))
      a' (programmed_first on a b p note bytes l)

  pub erase_in_first : p < a.size → (r : Result (Unit {0}) Fault)
      → Erases a p r a' → Erases (join on a b) p (placed_at p r) (join (keeps_power r) a' b)
  erase_in_first l =
      first_call on a b (erase_refusal (join on a b) p) (erase_refusal a p) p p (erased_block a p) (erased_block (join on a b) p) (λ _. Unit {0}) (Unit {0}) pd o
      (erase_first on a b p o (pd.first_on o) l) (erase_lit a p (pd.first_on o)) a' (erased_first on a b p l)

-- A call in the second half, at its place k.
module _ {on : Bool} {a b : Pages} (pd : Paired on a b) (o : on ≡ true) (b' : Pages) (p k : ℕ) where
  pub read_second : (buf after : List ℕ) → p ≡ page_count a + k → (r : Result Note Fault)
      → Reads b k buf r after b' → Reads (join on a b) p buf (placed_at p r) after (join (keeps_power r) a b')
  read_second buf after s r c =
      second_call on a b (read_refusal (join on a b) p (length buf)) (read_refusal b k (length buf)) p k b.cell (join on a b).cell
      (λ note. reads ((join on a b).cell p) ≡ held note after) (after ≡ buf) pd o
      (page_second (λ q z. read_at q (reads z)) read_moved on a b p (length buf) o k (pd.second_on o) s)
      (in_order_lit b.on (eqb (length buf) 512) (ltb k (page_count b)) (chip_fault k PowerOff) k (read_at k (reads (b.cell k))) (pd.second_on o) (read_lit k (reads (b.cell k))))
      b' (λ i. refl) r (rw (second_cell on a b p k s) c)

  pub program_second : (note : Note) (bytes : List ℕ) → p ≡ page_count a + k → (r : Result (Unit {0}) Fault) → Programs b k note bytes r b' → Programs (join on a b) p note bytes (placed_at p r) (join (keeps_power r) a b')
  program_second note bytes s =
      second_call on a b (program_refusal (join on a b) p (length bytes)) (program_refusal b k (length bytes)) p k (programmed b k note bytes)
      (programmed (join on a b) p note bytes) (λ _. Unit {0}) (Unit {0}) pd o (page_second program_at program_moved on a b p (length bytes) o k (pd.second_on o) s)
      (in_order_lit b.on (eqb (length bytes) 512) (ltb k (page_count b)) (chip_fault k PowerOff) k (program_at k (b.cell k)) (pd.second_on o) (program_lit k (b.cell k)))
      b' (programmed_second on a b p k note bytes s)

  pub erase_in_second : p ≡ a.size + k → (r : Result (Unit {0}) Fault)
      → Erases b k r b' → Erases (join on a b) p (placed_at p r) (join (keeps_power r) a b')
  erase_in_second s =
      second_call on a b (erase_refusal (join on a b) p) (erase_refusal b k) p k (erased_block b k) (erased_block (join on a b) p) (λ _. Unit {0}) (Unit {0}) pd o
      (erase_second on a b p o k (pd.second_on o) s) (erase_lit b k (pd.second_on o)) b' (erased_second on a b p k s)
