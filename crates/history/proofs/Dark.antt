-- While a cache is off, every call but power-on is refused with the fault that put or kept it so, and nothing changes.
use Rattle.std.proofs.Common.{◌≡◌, ℕ, true, false, ◌⊎◌, Some, None, Ok, Err, Option, Result, sym, ap, ◌∙◌, subst, inl, inr, arith}
use Rattle.device.specs.declared.faults.Fault.{Fault}
use Rattle.device.specs.declared.places.DiskAddress.{DiskAddress}
use Rattle.device.specs.Faults.{refusal_number}
use Rattle.device.specs.Chips.{Pages}
use Rattle.cache.specs.Views.{Working}
use Rattle.history.specs.declared.calls.Call.{Call}
use Rattle.history.specs.declared.calls.Call.TheVariants.{WriteDirty, WriteClean, Read, Evict, Clean, Exists, Sync, PowerOn}
use Rattle.history.specs.Answers.{Answer}
use Rattle.history.specs.declared.calls.Served.TheVariants.{Done, Data, Marks}
use Rattle.cache.specs.Caches.{WriteCall, EvictCall, CleanCall, SyncCall}
use Rattle.cache.specs.Refusals.{unless_off, off_by}
use Rattle.history.specs.Histories.{History, IsPowerOn}
use Rattle.history.specs.Histories.Phase.{off}
use Rattle.history.specs.Serving.{Serves, Plain, ReadServes, ExistsServes}
use Rattle.history.specs.Following.{FollowsOff}
use Rattle.history.proofs.Outcomes.{Next, still_dark}

-- while off the conditions refuse, and with that fault
off_refuses : (o other : Option Fault) (g f : Fault) → o ≡ Some g → unless_off o other ≡ Some f → f ≡ g
off_refuses o other g f e k = let z : Some g ≡ Some f = subst (λ x. unless_off x other ≡ Some f) e k in grind arith

off_never : (o other : Option Fault) (g : Fault) → o ≡ Some g → unless_off o other ≡ None → ⊥
off_never o other g e k = let z : Some g ≡ None = subst (λ x. unless_off x other ≡ None) e k in grind arith

module _ {C : Type 0} (meaning : C → Pages) (h h' : History) (c : Working C) (k : FollowsOff meaning h h' c) (call : Call) where
  same : (f : Fault) (d : Working C) (other : Option Fault) → unless_off c.off other ≡ Some f → d ≡ c → Next meaning (off h h') call (Err f) d
  same f d other r e =
      still_dark meaning h h' call f d (ap (λ x. refusal_number x.refusal) (off_refuses c.off other k.fault f k.power r) ∙ k.number)
      (subst (FollowsOff meaning h h') (sym e) k)

  off_refused : {W : Type 0} (other : Option Fault) (f : Fault) (d : Working C) → ((unless_off c.off other ≡ Some f) × (d ≡ c)) ⊎ ((unless_off c.off other ≡ None) × (d.off ≡ off_by f) × W)
      → Next meaning (off h h') call (Err f) d
  off_refused other f d (inl (r, e)) = same f d other r e
  off_refused other f d (inr (r, _, _)) = absurd (off_never c.off other k.fault k.power r)

  off_plain : (other : Option Fault) (Is : Result (Unit {0}) Fault → Type 0) (x : Answer) (d : Working C) → Plain Is x → (Is (Ok tt) → unless_off c.off other ≡ None)
      → ((f : Fault) → Is (Err f) → Next meaning (off h h') call (Err f) d) → Next meaning (off h h') call x d
  off_plain other Is (Ok Done) d r never refuses = absurd (off_never c.off other k.fault k.power (never r))
  off_plain other Is (Err f) d r never refuses = refuses f r
  off_plain other Is (Ok (Data page)) d r never refuses = elim r [ ]
  off_plain other Is (Ok (Marks page len)) d r never refuses = elim r [ ]

module _ {C : Type 0} (meaning : C → Pages) (h h' : History) (c : Working C) (k : FollowsOff meaning h h' c) where
  off_read : (a : DiskAddress) (len : ℕ) (x : Answer) (d : Working C) → ReadServes meaning a.0 len c x d → Next meaning (off h h') (Read a len) x d
  off_read a len (Ok Done) d r = elim r [ ]
  off_read a len (Ok (Marks page n)) d r = elim r [ ]
  off_read a len (Ok (Data page)) d (buf, _, (r, _, _)) = absurd (off_never c.off _ k.fault k.power r)
  off_read a len (Err f) d (buf, after, _, (_, r)) = off_refused meaning h h' c k (Read a len) _ f d r

  off_exists : (a : DiskAddress) (len : ℕ) (x : Answer) (d : Working C) → ExistsServes meaning a.0 len c x d → Next meaning (off h h') (Exists a len) x d
  off_exists a len (Ok Done) d r = elim r [ ]
  off_exists a len (Ok (Data page)) d r = elim r [ ]
  off_exists a len (Ok (Marks page n)) d (_, _, (buf, _, (r, _))) = absurd (off_never c.off _ k.fault k.power r)
  off_exists a len (Err f) d (e, (buf, after, _, (r, _))) = same meaning h h' c k (Exists a len) f d _ r e

  pub off_next : (call : Call) (x : Answer) (d : Working C) → (IsPowerOn call → ⊥) → Serves meaning c call x d → Next meaning (off h h') call x d
  off_next (WriteDirty a bytes) x d not r =
      off_plain meaning h h' c k (WriteDirty a bytes) _ (λ r. WriteCall meaning true a.0 bytes.now c r d) x d r (λ w. w.0) (λ f w. off_refused meaning h h' c k (WriteDirty a bytes) _ f d w)
  off_next (WriteClean a bytes) x d not r =
      off_plain meaning h h' c k (WriteClean a bytes) _ (λ r. WriteCall meaning false a.0 bytes.now c r d) x d r (λ w. w.0) (λ f w. off_refused meaning h h' c k (WriteClean a bytes) _ f d w)
  off_next (Read a len) x d not r = off_read a len x d r
  off_next (Evict a) x d not r =
      off_plain meaning h h' c k (Evict a) _ (λ r. EvictCall meaning a.0 c r d) x d r (λ w. w.0) (λ f w. off_refused meaning h h' c k (Evict a) _ f d w)
  off_next (Clean a) x d not r =
      off_plain meaning h h' c k (Clean a) _ (λ r. CleanCall meaning a.0 c r d) x d r (λ w. w.0) (λ f w. off_refused meaning h h' c k (Clean a) _ f d w)
  off_next (Exists a len) x d not r = off_exists a len x d r
  off_next Sync x d not r =
      off_plain meaning h h' c k Sync _ (λ r. SyncCall meaning c r d) x d r (λ w. w.0) (λ f w. off_refused meaning h h' c k Sync _ f d w)
  off_next PowerOn x d not r = absurd (not tt)
