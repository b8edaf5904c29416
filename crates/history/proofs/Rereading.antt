-- A read: the bytes of the page that holds the address are those that the history has there, and nothing changes.
use Rattle.std.proofs.Common.{◌≡◌, ℕ, Bool, true, false, cond, eqb, ◌⊎◌, List, length, Some, None, sym, refl, ap, ◌∙◌, subst, subst₂, inl, inr, arith, Ok, Err}
use Rattle.std.proofs.lemmas.Bool.{both_ways}
use Rattle.device.specs.declared.faults.Fault.{Fault}
use Rattle.device.specs.declared.faults.Refusal.TheVariants.{BadSize, NotHeld}
use Rattle.device.specs.declared.places.DiskAddress.{DiskAddress}
use Rattle.device.specs.Faults.{refusal_number}
use Rattle.device.specs.Chips.{State, Pages, data_page_at}
use Rattle.device.specs.Chips as chips
use Rattle.layout.specs.declared.entries.Mark.TheVariants.{Dirty}
use Rattle.layout.specs.Pages.{data_note}
use Rattle.table.specs.Tables.{Table, entry, entry_at, holds, held, ProperTable}
use Rattle.table.proofs.Tablewise.{holds_from, held_at}
use Rattle.recovery.specs.Looking.{shown, Quiet}
use Rattle.recovery.specs.Recovering.{cache_fault}
use Rattle.recovery.proofs.Wholly.{moved}
use Rattle.cache.specs.Views.{Working}
use Rattle.history.specs.declared.calls.Call.TheVariants.{Read}
use Rattle.history.specs.Answers.{Answer}
use Rattle.history.specs.declared.calls.Served.TheVariants.{Done, Data, Marks}
use Rattle.journal.specs.Notes.{pages_of}
use Rattle.journal.specs.Points.{point}
use Rattle.engine.specs.Works.{Holding}
use Rattle.cache.specs.Refusals.{read_refusal}
use Rattle.cache.specs.Caches.{chip_of, view_of}
use Rattle.history.specs.Histories.{Slot, History, ReadsBack}
use Rattle.history.specs.Histories.Slot.{absent, cached, kept}
use Rattle.history.specs.Histories.Phase.{on}
use Rattle.history.specs.Serving.{ReadServes}
use Rattle.history.specs.Following.{PageHas, SlotIs, Agrees, FollowsOn}
use Rattle.journal.proofs.Leaving.{left_more}
use Rattle.history.proofs.Outcomes.{AgreesOne, agrees_at, Next, refused, failed, follows_on}

dirty_holds : (t : Table) (i a : ℕ) → entry_at t i ≡ entry Dirty a → holds a (entry_at t i) ≡ true
dirty_holds t i a e = ap (holds a) e ∙ holds_from a (entry Dirty a) refl refl

same_bytes : (pages : ℕ → State) (i j a : ℕ) (x y : List ℕ) → i ≡ j → PageHas pages i a x → PageHas pages j a y → x ≡ y
same_bytes pages i j a x y e p q =
    let z : chips.State.held (data_note a) x ≡ chips.State.held (data_note a) y = sym p ∙ ap (λ n. pages (data_page_at n)) e ∙ q in grind arith

-- what the page holds that the table has for the address
read_back : (slot : Slot) (t : Table) (pages : ℕ → State) (a i : ℕ) (page : List ℕ) → ProperTable t → SlotIs slot t pages a → holds a (entry_at t i) ≡ true → PageHas pages i a page
    → ReadsBack slot (Ok (Data page))
read_back absent t pages a i page proper k h has = both_ways (held t a) k (held_at t a i h)
read_back (cached bytes) t pages a i page proper (inl n) h has = absurd (both_ways (held t a) n (held_at t a i h))
read_back (cached bytes) t pages a i page proper (inr (j, at, had)) h has = same_bytes pages i j a page bytes (proper.distinct i j a h at) has had
read_back (kept bytes) t pages a i page proper (j, is, had) h has = same_bytes pages i j a page bytes (proper.distinct i j a h (dirty_holds t j a is)) has had

-- The conditions refuse a buffer of a wrong size, or an address that is not held.
abbrev Why : Table → ℕ → Fault → Type 0
Why t a f = (refusal_number f.refusal ≡ 2) ⊎ ((refusal_number f.refusal ≡ 8) × (held t a ≡ false))

why : (t : Table) (a len : ℕ) (f : Fault) → read_refusal None t a len ≡ Some f → Why t a f
why t a len f e = go (eqb len 512) (held t a) refl e
  where
    is : (g : Fault) → Some g ≡ Some f → g ≡ f
    is g e = grind arith

    go : (whole there : Bool) → held t a ≡ there → cond whole (cond there None (Some (cache_fault a NotHeld))) (Some (cache_fault a BadSize)) ≡ Some f → Why t a f
    go true true h e = grind arith
    go true false h e = inr (ap (λ g. refusal_number g.refusal) (sym (is _ e)), h)
    go false there h e = inl (ap (λ g. refusal_number g.refusal) (sym (is _ e)))

refused_back : (slot : Slot) (t : Table) (pages : ℕ → State) (a : ℕ) (f : Fault) → SlotIs slot t pages a → Why t a f → ReadsBack slot (Err f)
refused_back absent t pages a f k (inl e) = inr e
refused_back absent t pages a f k (inr (e, _)) = inl e
refused_back (cached bytes) t pages a f k (inl e) = inr e
refused_back (cached bytes) t pages a f k (inr (e, _)) = inl e
refused_back (kept bytes) t pages a f k (inl e) = e
refused_back (kept bytes) t pages a f (i, is, _) (inr (_, n)) = absurd (both_ways (held t a) n (held_at t a i (dirty_holds t i a is)))

bright : (t : Table) (a : ℕ) (f : Fault) → Why t a f → eqb (refusal_number f.refusal) 1 ≡ false
bright t a f (inl e) = ap (λ n. eqb n 1) e
bright t a f (inr (e, _)) = ap (λ n. eqb n 1) e

module _ {C : Type 0} (meaning : C → Pages) (h : History) (c d : Working C) (size : d.journal.geometry ≡ c.journal.geometry) (k : FollowsOn meaning h c) where
  proper : ProperTable (view_of meaning c).table
  proper = k.holding.keeps.ready.proper

  -- a read that is served leaves the cache following
  read_on : Quiet (chip_of meaning c) (chip_of meaning d)
      → ((t : Table) → Holding (pages_of c.journal) (chip_of meaning c) (view_of meaning c) c.space t → Holding (pages_of c.journal) (chip_of meaning d) (view_of meaning c) c.space t)
      → d.off ≡ None → view_of meaning d ≡ view_of meaning c → d.space ≡ c.space → FollowsOn meaning h d
  read_on quiet keeps power view space =
      let shows = moved (chip_of meaning c) (chip_of meaning d) quiet in
      follows_on meaning h c d size power k.committed
      (subst₂ (λ v sp. Holding (pages_of c.journal) (chip_of meaning d) v sp k.committed) (sym view) (sym space) (keeps k.committed k.holding))
      (subst₂ (λ v s. Agrees h v.table s) (sym view) (sym shows) k.table)
      (subst (Agrees h k.committed) (sym shows) k.agrees)

  pub on_read : (a : DiskAddress) (len : ℕ) (x : Answer) → ReadServes meaning a.0 len c x d → Next meaning (on h) (Read a len) x d
  on_read a len (Ok Done) r = elim r [ ]
  on_read a len (Ok (Marks page n)) r = elim r [ ]
  on_read a len (Ok (Data page)) (buf, _, (_, power, ((quiet, (i, at, has), keeps), view, space))) =
      (on h, (read_back (h a.0) (view_of meaning c).table (shown (chip_of meaning c)) a.0 i page proper (k.table a.0) at has, refl), read_on quiet keeps power view space)
  on_read a len (Err f) (buf, after, _, (_, inl (r, e))) =
      let y = why (view_of meaning c).table a.0 (length buf) f (subst (λ o. read_refusal o (view_of meaning c).table a.0 (length buf) ≡ Some f) k.power r) in
      refused meaning h (Read a len) f d (bright (view_of meaning c).table a.0 f y)
      (refused_back (h a.0) (view_of meaning c).table (shown (chip_of meaning c)) a.0 f (k.table a.0) y) (subst (FollowsOn meaning h) (sym e) k)
  on_read a len (Err f) (buf, after, _, (_, inr (_, dark, (_, fails, left)))) =
      failed meaning h (Read a len) f c d size fails.lost dark
      (left_more (pages_of c.journal) (chip_of meaning d) (λ x. x ≡ point k.committed (shown (chip_of meaning c))) (AgreesOne h h)
      (λ x e. inl (agrees_at h k.committed (shown (chip_of meaning c)) x e k.agrees)) (left k.committed k.holding))
