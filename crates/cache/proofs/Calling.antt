-- What a call of a working cache answers, from what the work below it answers.
use Rattle.std.proofs.Common.{◌≡◌, ℕ, true, eqb, ◌⊎◌, List, length, Some, None, Ok, Err, Option, Result, sym, ap, ◌∙◌, subst, inl, inr, ⊎_elim, arith}
use Rattle.std.proofs.lemmas.Bool.{both_ways, cases_Bool, cond-true, cond-false}
use Rattle.device.specs.declared.faults.Fault.{Fault}
use Rattle.device.specs.declared.faults.Refusal.TheVariants.{BadSize, NotHeld}
use Rattle.device.specs.Chips.{Pages}
use Rattle.layout.specs.declared.entries.Entry.{Entry}
use Rattle.layout.specs.declared.entries.Mark.TheVariants.{Empty, Clean}
use Rattle.recovery.specs.Recovering.{cache_fault}
use Rattle.table.specs.Tables.{Table, entry_at, has_mark, holds, held, mark_of}
use Rattle.table.specs.Views.{AloneAt}
use Rattle.table.proofs.Tablewise.{holds_parts, held_at, mark_at}
use Rattle.journal.specs.Notes.{noted, pages_of}
use Rattle.engine.specs.Works.{Fetches}
use Rattle.cache.specs.Refusals.{unless_off, write_refusal, held_refusal, read_refusal, off_after}
use Rattle.cache.specs.Views.{Working}
use Rattle.cache.specs.Caches.{Call, ReadCall}

pub never : {A : Type 0} {x : A} → ◌≡◌ {A = Option A} (Some x) None → ⊥
never e = grind arith

-- a block that was not refused is whole
whole_block : (a len : ℕ) → write_refusal None a len ≡ None → eqb len 512 ≡ true
whole_block a len e =
    ⊎_elim (λ y. y) (λ n. absurd (never (sym (cond-false (eqb len 512) None (Some (cache_fault a BadSize)) n) ∙ e))) (cases_Bool (eqb len 512))

-- a cache that is on has no refusal but that of the arguments
pub on_refusal : (off other : Option Fault) → off ≡ None → other ≡ None → unless_off off other ≡ None
on_refusal off other on e = ap (λ o. unless_off o other) on ∙ e

pub read_allowed : (off : Option Fault) (t : Table) (a len : ℕ) → off ≡ None → write_refusal None a len ≡ None → held_refusal t a ≡ None → read_refusal off t a len ≡ None
read_allowed off t a len on whole here =
    on_refusal off _ on (cond-true (eqb len 512) (held_refusal t a) (Some (cache_fault a BadSize)) (whole_block a len whole) ∙ here)

-- an address with a page is held
pub found_held : (t : Table) (a p : ℕ) → AloneAt t a p → held_refusal t a ≡ None
found_held t a p at = cond-true (held t a) None (Some (cache_fault a NotHeld)) (held_at t a p at.here)

-- The mark of an address is that of the entry of the page that holds it, which is not empty.
module _ (t u : Table) (a p : ℕ) (e : Entry) (at : AloneAt t a p) (same : u ≡ t) (read : e ≡ entry_at u p) where
  as_read : e ≡ entry_at t p
  as_read = read ∙ ap (λ v. entry_at v p) same

  pub found_mark : mark_of t a ≡ e.mark
  found_mark = mark_at t a p at.here at.alone ∙ ap (λ x. x.mark) (sym as_read)

  found_marked : e.mark ≡ Empty → ⊥
  found_marked none =
      both_ways (has_mark e.mark) (ap has_mark none) (holds_parts a e (subst (λ x. holds a x ≡ true) (sym as_read) at.here)).0

  pub found_clean : (e.mark ≡ Clean) ⊎ (e.mark ≡ Empty) → mark_of t a ≡ Clean
  found_clean (inl clean) = found_mark ∙ clean
  found_clean (inr none) = absurd (found_marked none)

-- a call that nothing refuses answers as its work does
pub answered : {C : Type 0} (meaning : C → Pages) (refusal : Option Fault) (Work : Result (Unit {0}) Fault → Type 0) (c d : Working C) (r : Result (Unit {0}) Fault)
    → refusal ≡ None → d.off ≡ off_after r → Work r → Call meaning refusal Work c r d
answered meaning refusal Work c d (Ok x) e k w = (e, k, w)
answered meaning refusal Work c d (Err f) e k w = inr (e, k, w)

-- the same of a read: the buffer holds the data, or what it held before
pub read_answered : {C : Type 0} (meaning : C → Pages) (a : ℕ) (buf out : List ℕ) (c d : Working C) (r : Result (Unit {0}) Fault)
    → read_refusal c.off (noted c.journal).table a (length buf) ≡ None → d.off ≡ off_after r → d.journal ≡ c.journal → d.space ≡ c.space
    → Fetches (pages_of c.journal) a (meaning c.chip) (noted c.journal) c.space buf r out (meaning d.chip) → ReadCall meaning a buf c r out d
read_answered meaning a buf out c d (Ok x) e k j s w = (e, k, (w, ap noted j, s))
read_answered meaning a buf out c d (Err f) e k j s w = (w.0, inr (e, k, w))
