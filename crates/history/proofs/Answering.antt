-- What one call of a list answers, from what the cache's call does.
use Rattle.std.proofs.Common.{◌≡◌, ℕ, ◌-◌, ◌≤◌, Bool, true, false, cond, eqb, List, ◌++◌, length, take, Some, None, Ok, Option, Result, sym, refl, ap, ◌∙◌, subst, arith, Err}
use native.Mathlib.Nat.{sub-zero}
use Rattle.std.proofs.lemmas.List.{take_at, length-take-le}
use Rattle.std.proofs.lemmas.Bool.{eqb-true}
use Rattle.device.specs.declared.faults.Fault.{Fault}
use Rattle.device.specs.Chips.{Pages}
use Rattle.table.specs.Tables.{Table}
use Rattle.journal.specs.Notes.{noted}
use Rattle.cache.specs.Views.{Working}
use Rattle.cache.specs.Refusals.{read_refusal}
use Rattle.cache.specs.Caches.{ReadCall, ExistsCall}
use Rattle.history.specs.Answers.{Answer}
use Rattle.history.specs.declared.calls.Served.TheVariants.{Done, Data, Marks}
use Rattle.history.specs.Serving.{Plain, ReadServes, ExistsServes}

-- what the call's result satisfies, the answer made of it satisfies
pub plainly : (Is : Result (Unit {0}) Fault → Type 0) (result : Result (Unit {0}) Fault) (x : Answer) → Plain (λ r. r ≡ result) x → Is result → Plain Is x
plainly Is result (Ok Done) e h = subst Is (sym e) h
plainly Is result (Err f) e h = subst Is (sym e) h
plainly Is result (Ok (Data page)) e h = absurd e
plainly Is result (Ok (Marks page len)) e h = absurd e

-- Reads and exists go by way of the first bytes of a longer buffer.

-- as much of the buffer as the call asked for
pub front_long : {A : Type 0} (len : ℕ) (xs : List A) → len ≤ length xs → length (take (len - 0) xs) ≡ len
front_long len xs l = ap (λ n. length (take n xs)) (sub-zero len) ∙ length-take-le len xs l

if_none : (b : Bool) (o : Option Fault) (f : Fault) → cond b o (Some f) ≡ None → b ≡ true
if_none true o f e = refl
if_none false o f e = grind arith

-- a read that is not refused has a buffer of a whole block
pub whole_block : (off : Option Fault) (t : Table) (a len : ℕ) → read_refusal off t a len ≡ None → len ≡ 512
whole_block None t a len e = eqb-true len 512 (if_none (eqb len 512) _ _ e)
whole_block (Some f) t a len e = grind arith

-- what was read is the whole of the page that is handed on
pub read_served : {C : Type 0} (meaning : C → Pages) (a len : ℕ) (c d : Working C) (scratch after page rest : List ℕ) → len ≤ length scratch
    → ReadCall meaning a (take (len - 0) scratch) c (Ok tt) after d → length after ≡ length (take (len - 0) scratch) → page ≡ take 512 (after ++ rest)
    → ReadServes meaning a len c (Ok (Data page)) d
read_served meaning a len c d scratch after page rest room call kept copied =
    let whole = whole_block c.off (noted c.journal).table a (length (take (len - 0) scratch)) call.0 in
    let same : page ≡ after = copied ∙ take_at after rest 512 (kept ∙ whole) in
    (take (len - 0) scratch, front_long len scratch room, subst (λ p. ReadCall meaning a (take (len - 0) scratch) c (Ok tt) p d) (sym same) call)

-- the marks are the front of the page that is handed on
pub exists_served : {C : Type 0} (meaning : C → Pages) (a len : ℕ) (c : Working C) (scratch after part rest more : List ℕ) → len ≤ length scratch
    → ExistsCall meaning a (take (len - 0) scratch) c (Ok tt) after → length after ≡ length (take (len - 0) scratch) → part ≡ take (len - 0) (after ++ rest)
    → ExistsServes meaning a len c (Ok (Marks (part ++ more) len)) c
exists_served meaning a len c scratch after part rest more room call kept copied =
    let long : length after ≡ len = kept ∙ front_long len scratch room in
    let same : part ≡ after = copied ∙ take_at after rest (len - 0) (long ∙ sym (sub-zero len)) in
    let front : take len (part ++ more) ≡ after = take_at part more len (ap length same ∙ long) ∙ same in
    (refl, refl, (take (len - 0) scratch, front_long len scratch room, (call.0, front ∙ call.1)))
