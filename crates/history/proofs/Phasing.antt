-- How a phase moves by an answer's number alone, and when a cache follows as it did.
use Rattle.std.proofs.Common.{◌≡◌, true, false, cond, eqb, ◌⊎◌, Some, None, sym, refl, ap, subst}
use Rattle.device.specs.declared.faults.Fault.{Fault}
use Rattle.device.specs.Chips.{Pages}
use Rattle.device.specs.Faults.{refusal_number}
use Rattle.layout.specs.Geometry.{data_pages}
use Rattle.recovery.specs.Looking.{shown, Lost}
use Rattle.journal.specs.Notes.{pages_of}
use Rattle.engine.specs.Works.{Holding}
use Rattle.cache.specs.Refusals.{off_by}
use Rattle.cache.specs.Views.{Working}
use Rattle.cache.specs.Caches.{chip_of, view_of}
use Rattle.history.specs.declared.calls.Call.{Call}
use Rattle.history.specs.Answers.{Answer}
use Rattle.history.specs.Histories.{History, step, number_of, dark, served, Says, IsPowerOn, Moves}
use Rattle.history.specs.Histories.Phase.{on, off}
use Rattle.history.specs.Following.{Agrees, FollowsOn}

-- By the number of the answer.

module _ (h : History) (call : Call) (x : Answer) where
  pub moves_served : number_of x ≡ 0 → Says h call x → Moves (on h) call x (on (step h call))
  moves_served e says = subst (λ n. cond (eqb n 1) (on (step h call) ≡ off h (step h call)) (Says h call x × (on (step h call) ≡ on (cond (eqb n 0) (step h call) h)))) (sym e) (says, refl)

  pub moves_refused : dark x ≡ false → served x ≡ false → Says h call x → Moves (on h) call x (on h)
  moves_refused bright not says =
      subst (λ b. cond b (on h ≡ off h (step h call)) (Says h call x × (on h ≡ on (cond (served x) (step h call) h)))) (sym bright)
      (says, ap (λ b. on (cond b (step h call) h)) (sym not))

  pub moves_dark : number_of x ≡ 1 → Moves (on h) call x (off h (step h call))
  moves_dark e = subst (λ n. cond (eqb n 1) (off h (step h call) ≡ off h (step h call)) (Says h call x × (off h (step h call) ≡ on (cond (eqb n 0) (step h call) h)))) (sym e) refl

pub stays_dark : (h h' : History) (call : Call) (x : Answer) → number_of x ≡ 1 → Moves (off h h') call x (off h h')
stays_dark h h' call x e =
    subst (λ n. cond (eqb n 1) (off h h' ≡ off h h') (IsPowerOn call × (eqb n 0 ≡ true) × ((off h h' ≡ on h) ⊎ (off h h' ≡ on h')))) (sym e) refl

-- power that failed has number 1, and puts the cache off with its fault
pub lost_number : (f : Fault) (m : Pages) → Lost f m → refusal_number f.refusal ≡ 1
lost_number f m (unpowered, (p, is)) = ap (λ g. refusal_number g.refusal) is

pub lost_off : (f : Fault) (m : Pages) → Lost f m → off_by f ≡ Some f
lost_off f m (unpowered, (p, is)) = subst (λ g. off_by g ≡ Some g) (sym is) refl

-- The chip, the journal and the space mean what they meant.

module _ {C : Type 0} (meaning : C → Pages) (c d : Working C) (size : d.journal.geometry ≡ c.journal.geometry) where
  -- as many data pages
  pub same_size : pages_of d.journal ≡ pages_of c.journal
  same_size = ap (λ g. data_pages g.blocks) size

  pub follows_again : (h : History) → d.off ≡ None → chip_of meaning d ≡ chip_of meaning c → view_of meaning d ≡ view_of meaning c → d.space ≡ c.space
      → FollowsOn meaning h c → FollowsOn meaning h d
  follows_again h power chip view space f = record {
    power = power;
    table =
        subst (λ v. Agrees h v.table (shown (chip_of meaning d))) (sym view) (subst (λ m. Agrees h (view_of meaning c).table (shown m)) (sym chip) f.table);
    committed = f.committed;
    holding =
        subst (λ n. Holding n (chip_of meaning d) (view_of meaning d) d.space f.committed) (sym same_size)
        (subst (λ m. Holding (pages_of c.journal) m (view_of meaning d) d.space f.committed) (sym chip)
        (subst (λ v. Holding (pages_of c.journal) (chip_of meaning c) v d.space f.committed) (sym view)
        (subst (λ s. Holding (pages_of c.journal) (chip_of meaning c) (view_of meaning c) s f.committed) (sym space) f.holding)));
    agrees = subst (λ m. Agrees h f.committed (shown m)) (sym chip) f.agrees;
  }
