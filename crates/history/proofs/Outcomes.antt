-- What the answer of one call makes of a phase, by how the call came out: served, refused while on, or ended by power that failed.
use Rattle.std.proofs.Common.{◌≡◌, ℕ, false, eqb, ◌⊎◌, None, sym, refl, ◌∙◌, subst, Ok, Err}
use Rattle.device.specs.declared.faults.Fault.{Fault}
use Rattle.device.specs.declared.faults.Refusal.{Refusal}
use Rattle.device.specs.declared.faults.Refusal.TheVariants.{PowerOff, BadSize, OutOfRange, Unsettled, NotBlank, Torn, Blank, NotHeld, Full, NoCheckpoint, Breach, BadGeometry}
use Rattle.device.specs.Faults.{refusal_number}
use Rattle.device.specs.Chips.{State, Pages}
use Rattle.recovery.specs.Looking.{shown, Lost}
use Rattle.table.specs.Tables.{Table}
use Rattle.cache.specs.Views.{Working}
use Rattle.history.specs.declared.calls.Call.{Call}
use Rattle.history.specs.Answers.{Answer}
use Rattle.history.specs.declared.calls.Served.TheVariants.{Done}
use Rattle.journal.specs.Notes.{pages_of}
use Rattle.journal.specs.Points.{Point, point, Left}
use Rattle.engine.specs.Works.{Holding}
use Rattle.cache.specs.Refusals.{off_by}
use Rattle.cache.specs.Caches.{chip_of, view_of}
use Rattle.history.specs.Histories.{History, Phase, Moves, Says, step}
use Rattle.history.specs.Histories.Phase.{on, off}
use Rattle.history.specs.Following.{Agrees, Follows, FollowsOn, FollowsOff}
use Rattle.history.proofs.Phasing.{moves_refused, moves_dark, stays_dark, lost_number, lost_off, same_size}

-- no refusal has the number of a served call
pub never_zero : (r : Refusal) → eqb (refusal_number r) 0 ≡ false
never_zero PowerOff = refl
never_zero BadSize = refl
never_zero OutOfRange = refl
never_zero Unsettled = refl
never_zero NotBlank = refl
never_zero Torn = refl
never_zero Blank = refl
never_zero NotHeld = refl
never_zero Full = refl
never_zero NoCheckpoint = refl
never_zero Breach = refl
never_zero BadGeometry = refl

-- a point agrees with one of two histories
abbrev pub AgreesOne : History → History → Point → Type 0
AgreesOne h h' x = Agrees h x.table x.pages ⊎ Agrees h' x.table x.pages

pub agrees_at : (h : History) (t : Table) (pages : ℕ → State) (x : Point) → x ≡ point t pages → Agrees h t pages → Agrees h x.table x.pages
agrees_at h t pages x e k = subst (λ y. Agrees h y.table y.pages) (sym e) k

module _ {C : Type 0} (meaning : C → Pages) where
  -- the phase after a call, and that the cache follows it
  abbrev pub Next : Phase → Call → Answer → Working C → Type 0
  Next p call x d = (next : Phase) × Moves p call x next × Follows meaning next d

  -- a call that is done counts
  pub done : (h : History) (call : Call) (d : Working C) → Says h call (Ok Done) → FollowsOn meaning (step h call) d → Next (on h) call (Ok Done) d
  done h call d says k = (on (step h call), (says, refl), k)

  -- one that is refused while on does not
  pub refused : (h : History) (call : Call) (f : Fault) (d : Working C) → eqb (refusal_number f.refusal) 1 ≡ false → Says h call (Err f) → FollowsOn meaning h d
      → Next (on h) call (Err f) d
  refused h call f d bright says k = (on h, moves_refused h call (Err f) bright (never_zero f.refusal) says, k)

  pub darkened : (h : History) (call : Call) (f : Fault) (d : Working C) → refusal_number f.refusal ≡ 1 → FollowsOff meaning h (step h call) d → Next (on h) call (Err f) d
  darkened h call f d e k = (off h (step h call), moves_dark h call (Err f) e, k)

  pub still_dark : (h h' : History) (call : Call) (f : Fault) (d : Working C) → refusal_number f.refusal ≡ 1 → FollowsOff meaning h h' d → Next (off h h') call (Err f) d
  still_dark h h' call f d e k = (off h h', stays_dark h h' call (Err f) e, k)

  -- power failed in the call: it counts wholly or not at all
  pub failed : (h : History) (call : Call) (f : Fault) (c d : Working C) → d.journal.geometry ≡ c.journal.geometry → Lost f (chip_of meaning d) → d.off ≡ off_by f
      → Left (pages_of c.journal) (chip_of meaning d) (AgreesOne h (step h call)) → Next (on h) call (Err f) d
  failed h call f c d size lost dark left = darkened h call f d (lost_number f (chip_of meaning d) lost) (record {
    fault = f;
    power = dark ∙ lost_off f (chip_of meaning d) lost;
    number = lost_number f (chip_of meaning d) lost;
    left = subst (λ n. Left n (chip_of meaning d) (AgreesOne h (step h call))) (sym (same_size meaning c d size)) left;
  })

  -- served, the cache follows by the table in memory and the committed one
  pub follows_on : (h : History) (c d : Working C) → d.journal.geometry ≡ c.journal.geometry → d.off ≡ None → (u : Table)
      → Holding (pages_of c.journal) (chip_of meaning d) (view_of meaning d) d.space u → Agrees h (view_of meaning d).table (shown (chip_of meaning d))
      → Agrees h u (shown (chip_of meaning d)) → FollowsOn meaning h d
  follows_on h c d size power u holding a b = record {
    power = power;
    table = a;
    committed = u;
    holding = subst (λ n. Holding n (chip_of meaning d) (view_of meaning d) d.space u) (sym (same_size meaning c d size)) holding;
    agrees = b;
  }
