-- One call moves a history on as its answer says, and the cache follows.
use Rattle.std.proofs.Common.{◌≡◌}
use Rattle.device.specs.Chips.{Pages}
use Rattle.cache.specs.Views.{Working}
use Rattle.history.specs.declared.calls.Call.{Call}
use Rattle.history.specs.declared.calls.Call.TheVariants.{WriteDirty, WriteClean, Read, Evict, Clean, Exists, Sync, PowerOn}
use Rattle.history.specs.Answers.{Answer}
use Rattle.history.specs.Histories.{History, Phase, Moves}
use Rattle.history.specs.Histories.Phase.{on, off}
use Rattle.history.specs.Serving.{Serves}
use Rattle.history.specs.Following.{Follows, FollowsOn, FollowsOff}
use Rattle.history.proofs.Outcomes.{Next}
use Rattle.history.proofs.Dark.{off_next}
use Rattle.history.proofs.Waked.{on_waked, off_waked}
use Rattle.history.proofs.Rereading.{on_read}
use Rattle.history.proofs.Remarked.{on_evict, on_clean, on_exists, on_sync}
use Rattle.history.proofs.Wrote.{wrote_dirty, wrote_clean}

module _ {C : Type 0} (meaning : C → Pages) (c d : Working C) (size : d.journal.geometry ≡ c.journal.geometry) where
  on_moves : (h : History) (call : Call) (x : Answer) → FollowsOn meaning h c → Serves meaning c call x d → Next meaning (on h) call x d
  on_moves h (WriteDirty a bytes) x f r = wrote_dirty meaning (on h) c d a bytes x size f r
  on_moves h (WriteClean a bytes) x f r = wrote_clean meaning (on h) c d a bytes x size f r
  on_moves h (Read a len) x f r = on_read meaning h c d size f a len x r
  on_moves h (Evict a) x f r = on_evict meaning h c d size f a x r
  on_moves h (Clean a) x f r = on_clean meaning h c d size f a x r
  on_moves h (Exists a len) x f r = on_exists meaning h c d size f a len x r
  on_moves h Sync x f r = on_sync meaning h c d size f x r
  on_moves h PowerOn x f r = on_waked meaning c d size h f x r

  off_moves : (h h' : History) (call : Call) (x : Answer) → FollowsOff meaning h h' c → Serves meaning c call x d → Next meaning (off h h') call x d
  off_moves h h' (WriteDirty a bytes) x f r = off_next meaning h h' c f (WriteDirty a bytes) x d (λ e. e) r
  off_moves h h' (WriteClean a bytes) x f r = off_next meaning h h' c f (WriteClean a bytes) x d (λ e. e) r
  off_moves h h' (Read a len) x f r = off_next meaning h h' c f (Read a len) x d (λ e. e) r
  off_moves h h' (Evict a) x f r = off_next meaning h h' c f (Evict a) x d (λ e. e) r
  off_moves h h' (Clean a) x f r = off_next meaning h h' c f (Clean a) x d (λ e. e) r
  off_moves h h' (Exists a len) x f r = off_next meaning h h' c f (Exists a len) x d (λ e. e) r
  off_moves h h' Sync x f r = off_next meaning h h' c f Sync x d (λ e. e) r
  off_moves h h' PowerOn x f r = off_waked meaning c d size h h' f x r

pub moves : {C : Type 0} (meaning : C → Pages) (p : Phase) (c d : Working C) (call : Call) (x : Answer)
    → d.journal.geometry ≡ c.journal.geometry → Follows meaning p c → Serves meaning c call x d → (next : Phase) × Moves p call x next × Follows meaning next d
moves meaning (on h) c d call x size f r = on_moves meaning c d size h call x f r
moves meaning (off h h') c d call x size f r = off_moves meaning c d size h h' call x f r
