-- A write moves a history on as its answer says, and the cache follows.
use Rattle.std.proofs.Common.{◌≡◌, ℕ, ◌<◌, Bool, true, false, cond, eqb, ◌⊎◌, List, [], ◌∷◌, length, Some, None, Ok, Option, sym, refl, ap, ◌∙◌, subst, inl, inr, ⊎_elim, arith, Bor, Err}
use Rattle.std.proofs.lemmas.Bool.{eqb-true, both_ways, cases_Bool, true≢false}
use Rattle.device.specs.declared.faults.Fault.{Fault}
use Rattle.device.specs.declared.faults.Refusal.TheVariants.{BadSize}
use Rattle.device.specs.declared.places.DiskAddress.{DiskAddress}
use Rattle.device.specs.Chips.{Pages, data_page_at}
use Rattle.device.specs.Faults.{refusal_number}
use Rattle.layout.specs.declared.records.Record.{Record}
use Rattle.recovery.specs.Looking.{shown}
use Rattle.recovery.specs.Recovering.{cache_fault}
use Rattle.table.specs.Choices.{FirstRound, dirty_in}
use Rattle.table.specs.Tables.{Table, marked_at, held, entered, replayed}
use Rattle.journal.specs.Drops.{spared}
use Rattle.engine.specs.Moves.{mark_for, must_commit, written}
use Rattle.journal.specs.Notes.{Noted, pages_of}
use Rattle.journal.specs.Points.{Point, point, Left}
use Rattle.space.specs.Rooms.{MakesRoom, RoomPoints}
use Rattle.journal.specs.Steps.{Fails}
use Rattle.engine.specs.Works.{Holding, WritePoints, WriteCommits, Writes}
use Rattle.space.specs.Worlds.{World, world, blank_page, placed_pages}
use Rattle.space.specs.declared.blanks.Space.{Space}
use Rattle.cache.specs.Refusals.{write_refusal, off_by}
use Rattle.cache.specs.Views.{Working}
use Rattle.cache.specs.Caches.{chip_of, view_of, WriteCall}
use Rattle.history.specs.declared.calls.Call.{Call}
use Rattle.history.specs.declared.calls.Call.TheVariants.{WriteDirty, WriteClean}
use Rattle.history.specs.Answers.{Answer}
use Rattle.history.specs.declared.calls.Served.TheVariants.{Done, Data, Marks}
use Rattle.history.specs.Histories.{History, with_slot, step, Says, Phase, Moves}
use Rattle.history.specs.Histories.Slot.{cached}
use Rattle.history.specs.Histories.Phase.{on, off}
use Rattle.history.specs.Serving.{Plain, Serves}
use Rattle.history.specs.Following.{Agrees, FollowsOn, FollowsOff, Follows}
use Rattle.history.proofs.Agreeing.{slot_for, agrees_pages, agrees_dropped_new, agrees_entered, placed_away}
use Rattle.journal.proofs.Leaving.{left_more}
use Rattle.history.proofs.Phasing.{moves_served, moves_refused, moves_dark, stays_dark, lost_number, lost_off, same_size, follows_again}
use Rattle.space.proofs.Placing.{blank_is, held_unmarked}
use Rattle.history.proofs.Sitting.{WorldSits, sits_spared, sits_unmarked, room_sits, written_table, written_pages, written_staged}

-- with nothing staged, the committed table is the one in memory
pub nothing_staged : (t : Table) (rs : List Record) (u : Table) → length rs ≡ 0 → replayed (Some t) rs ≡ Some u → t ≡ u
nothing_staged t [] u none e = cc
nothing_staged t (r ∷ rs) u none e = absurd (omega (arith, none))

-- a write that need not be committed is a clean one
needless : (dirty : Bool) (other : Bool) → cond dirty true other ≡ false → dirty ≡ false
needless true other h = absurd (true≢false h)
needless false other h = refl

-- a point at which recovery finds one history, or the other
abbrev pub AgreesEither : History → History → Point → Type 0
AgreesEither h h' x = Agrees h x.table x.pages ⊎ Agrees h' x.table x.pages

-- What a write leaves, for a history that both tables agree with.

module _ (D blocks : ℕ) (dirty : Bool) (a : ℕ) (bytes : List ℕ) (m : Pages) (v : Noted) (sp : Space) (h : History) (t : Table) (holding : Holding D m v sp t)
    (in_memory : Agrees h v.table (shown m)) (on_chip : Agrees h t (shown m)) where
  abbrev w : World
  w = world m v sp

  abbrev after : History
  after = with_slot h a (slot_for dirty bytes)

  start : WorldSits D h w
  start = let ready = holding.keeps.ready in record { proper = ready.proper; long = ready.long; backed = ready.backed; agrees = in_memory }

  module _ (u : World) (i : ℕ) (room : MakesRoom D blocks w u) (first : FirstRound (blank_page u.pages) D u.cursor i) where
    abbrev end : World
    end = written D dirty a bytes i u

    sits : WorldSits D h u
    sits = room_sits D blocks h w u room start

    unmarked : marked_at u.noted.table i ≡ false
    unmarked = sits_unmarked D h u.noted.table u.pages sits i first.inside first.found

    entered_agrees : Agrees after (entered u.noted.table i (mark_for dirty) a) (placed_pages i a bytes u.pages)
    entered_agrees = agrees_entered u.noted.table i a bytes u.pages unmarked (subst (λ n. i < n) (sym sits.long) first.inside) dirty h sits.agrees

    end_agrees : Agrees after end.noted.table end.pages
    end_agrees =
        let table = entered u.noted.table i (mark_for dirty) a in
        subst (λ x. Agrees after x end.pages) (sym (written_table D dirty a bytes i u))
        (agrees_pages after table (placed_pages i a bytes u.pages) end.pages (λ j marked. written_pages D dirty a bytes i u j) entered_agrees)

    -- a table without the address, and without a mark for the new page, agrees too if nothing had to be committed
    without_agrees : must_commit dirty a u ≡ false → (x : Table) → Agrees h x u.pages → held x a ≡ false → marked_at x i ≡ false → Agrees after x end.pages
    without_agrees need x agrees unheld bare =
        let away : (j : ℕ) → marked_at x j ≡ true → j ≡ i → ⊥ = λ j marked e. both_ways (marked_at x j) (ap (marked_at x) e ∙ bare) marked in
        subst (λ b. Agrees (with_slot h a (slot_for b bytes)) x end.pages) (sym (needless dirty (held u.noted.table a) need))
        (agrees_pages (with_slot h a (cached bytes)) x u.pages end.pages
        (λ j marked. written_pages D dirty a bytes i u j ∙ placed_away i a bytes u.pages j (away j marked)) (agrees_dropped_new h x u.pages agrees a bytes unheld))

    module _ (m' : Pages) (v' : Noted) (sp' : Space) (is : world m' v' sp' ≡ end) where
      pub memory_agrees : Agrees after v'.table (shown m')
      memory_agrees = subst (λ x. Agrees after x.noted.table x.pages) (sym is) end_agrees

      -- the table committed before does not mark the new page
      old_unmarked : u ≡ w → marked_at t i ≡ false
      old_unmarked same =
          held_unmarked D m v t i holding.keeps.ready first.inside (blank_is (shown m (data_page_at i)) (subst (λ x. blank_page x.pages i ≡ true) same first.found))

      uncommitted : (t' : Table) → must_commit dirty a u ≡ false → WriteCommits a w u v'.table t t' → Agrees after t' end.pages
      uncommitted t' need (inl e) = subst (λ x. Agrees after x end.pages) (sym (e ∙ ap (λ x. x.noted.table) is)) end_agrees
      uncommitted t' need (inr (unheld, inl (same, e))) =
          subst (λ x. Agrees after x end.pages) (sym e)
          (without_agrees need t (subst (λ x. Agrees h t x.pages) (sym same) on_chip) (ap (λ x. held x a) (sym e) ∙ unheld) (old_unmarked same))
      uncommitted t' need (inr (unheld, inr e)) =
          subst (λ x. Agrees after x end.pages) (sym e) (without_agrees need u.noted.table sits.agrees (ap (λ x. held x a) (sym e) ∙ unheld) unmarked)

      pub chip_agrees : (t' : Table) → Holding D m' v' sp' t' → WriteCommits a w u v'.table t t' → Agrees after t' (shown m')
      chip_agrees t' after_holding commits =
          ⊎_elim
          (λ must.
          let staged : length v'.staged ≡ 0 = ap (λ x. length x.noted.staged) is ∙ written_staged D dirty a bytes i u must in
          subst (λ x. Agrees after x (shown m')) (sym (nothing_staged t' v'.staged v'.table staged after_holding.keeps.ready.makes)) memory_agrees)
          (λ need. subst (λ x. Agrees after t' x.pages) (sym is) (uncommitted t' need commits))
          (cases_Bool (must_commit dirty a u))

  -- Where power fails, recovery comes out at one of these points.

  as_before : (x : Point) (y : Table) → x ≡ point y w.pages → Agrees h y w.pages → AgreesEither h after x
  as_before x y e agrees = inl (subst (λ z. Agrees h z.table z.pages) (sym e) agrees)

  room_point : (x : Point) → RoomPoints D blocks t w x → AgreesEither h after x
  room_point x (none, (b, victim, inl e)) = as_before x t e on_chip
  room_point x (none, (b, victim, inr (inl e))) = as_before x v.table e in_memory
  room_point x (none, (b, victim, inr (inr e))) =
      as_before x (spared v.table b) e (sits_spared D h v.table (shown m) start b (eqb-true (dirty_in v.table b) 0 victim.fit)).agrees

  pub write_point : (x : Point) → WritePoints D blocks dirty a bytes w t x → AgreesEither h after x
  write_point x (inl e) = as_before x t e on_chip
  write_point x (inr (inl e)) = as_before x v.table e in_memory
  write_point x (inr (inr (inl room))) = room_point x room
  write_point x (inr (inr (inr (u, i, room, first, e)))) = inr (subst (λ z. Agrees after z.table z.pages) (sym e) (entered_agrees u i room first))

-- Refusals of a write.

size_number : (a len : ℕ) (f : Fault) → cond (eqb len 512) None (Some (cache_fault a BadSize)) ≡ Some f → refusal_number f.refusal ≡ 2
size_number a len f h = go (eqb len 512) h
  where
    go : (b : Bool) → cond b None (Some (cache_fault a BadSize)) ≡ Some f → refusal_number f.refusal ≡ 2
    go true e = absurd (let z : ◌≡◌ {A = ℕ} 0 1 = cc in omega arith)
    go false e = let same : cache_fault a BadSize ≡ f = cc in ap (λ g. refusal_number g.refusal) (sym same)

refused_number : (o : Option Fault) (a len : ℕ) (f : Fault) → o ≡ None → write_refusal o a len ≡ Some f → refusal_number f.refusal ≡ 2
refused_number o a len f none h = size_number a len f (ap (λ x. write_refusal x a len) (sym none) ∙ h)

-- while the cache is off, the refusal is the fault that it keeps
off_refused : (o : Option Fault) (a len : ℕ) (f : Fault) → o ≡ Some f → write_refusal o a len ≡ Some f
off_refused o a len f h = ap (λ x. write_refusal x a len) h

same_fault : (o : Option Fault) (a len : ℕ) (f g : Fault) → o ≡ Some f → write_refusal o a len ≡ Some g → g ≡ f
same_fault o a len f g h k = let e = off_refused o a len f h in cc

never_none : (o : Option Fault) (a len : ℕ) (f : Fault) → o ≡ Some f → write_refusal o a len ≡ None → ⊥
never_none o a len f h k = let e = off_refused o a len f h in let z : ◌≡◌ {A = ℕ} 0 1 = cc in omega arith

-- The call.

module _ {C : Type 0} (meaning : C → Pages) (dirty : Bool) (a : ℕ) (bytes : List ℕ) (c d : Working C) (size : d.journal.geometry ≡ c.journal.geometry) where
  abbrev blocks : ℕ
  blocks = c.journal.geometry.blocks

  abbrev D : ℕ
  D = pages_of c.journal

  abbrev before : World
  before = world (chip_of meaning c) (view_of meaning c) c.space

  module _ (h : History) (f : FollowsOn meaning h c) where
    abbrev next : History
    next = with_slot h a (slot_for dirty bytes)

    served_follows : d.off ≡ None → Writes D blocks dirty a bytes (chip_of meaning c) (view_of meaning c) c.space (Ok tt) (chip_of meaning d) (view_of meaning d) d.space
        → FollowsOn meaning next d
    served_follows power (u, i, room, first, (long, is, held), settled) =
        let m = chip_of meaning c in
        let v = view_of meaning c in
        let m' = chip_of meaning d in
        let v' = view_of meaning d in
        let (t', holding, commits) = held f.committed f.holding in
        record {
          power = power;
          table = memory_agrees D blocks dirty a bytes m v c.space h f.committed f.holding f.table f.agrees u i room first m' v' d.space is;
          committed = t';
          holding = subst (λ n. Holding n m' v' d.space t') (sym (same_size meaning c d size)) holding;
          agrees = chip_agrees D blocks dirty a bytes m v c.space h f.committed f.holding f.table f.agrees u i room first m' v' d.space is t' holding commits;
        }

    -- power failed: whichever way the cut went
    failed_follows : (g : Fault) → d.off ≡ off_by g → Fails (chip_of meaning c) g (chip_of meaning d)
        → ((t : Table) → Holding D (chip_of meaning c) (view_of meaning c) c.space t → Left D (chip_of meaning d) (WritePoints D blocks dirty a bytes before t))
        → FollowsOff meaning h next d
    failed_follows g power fails left = record {
      fault = g;
      power = power ∙ lost_off g (chip_of meaning d) fails.lost;
      number = lost_number g (chip_of meaning d) fails.lost;
      left =
          subst (λ n. Left n (chip_of meaning d) (AgreesEither h next)) (sym (same_size meaning c d size))
          (left_more D (chip_of meaning d) (WritePoints D blocks dirty a bytes before f.committed) (AgreesEither h next)
          (write_point D blocks dirty a bytes (chip_of meaning c) (view_of meaning c) c.space h f.committed f.holding f.table f.agrees) (left f.committed f.holding));
    }

  module _ (call : Call) (stepped : (h : History) → step h call ≡ with_slot h a (slot_for dirty bytes)) (says : (h : History) (x : Answer) → Says h call x) where
    abbrev Moved : Phase → Answer → Type 0
    Moved p x = (next : Phase) × Moves p call x next × Follows meaning next d

    refused : (h : History) (g : Fault) (n : ℕ) → refusal_number g.refusal ≡ n → eqb n 1 ≡ false → eqb n 0 ≡ false → FollowsOn meaning h d → Moved (on h) (Err g)
    refused h g n e bright not f = (on h, moves_refused h call (Err g) (ap (λ k. eqb k 1) e ∙ bright) (ap (λ k. eqb k 0) e ∙ not) (says h (Err g)), f)

    wrote : (p : Phase) (x : Answer) → Follows meaning p c → Plain (λ r. WriteCall meaning dirty a bytes c r d) x → Moved p x
    wrote (on h) (Ok Done) f (none, power, works) =
        (on (step h call), moves_served h call (Ok Done) refl (says h (Ok Done)), subst (λ k. FollowsOn meaning k d) (sym (stepped h)) (served_follows h f power works))
    wrote (on h) (Err g) f (inl (refusal, same)) =
        refused h g 2 (refused_number c.off a (length bytes) g f.power refusal) refl refl (subst (FollowsOn meaning h) (sym same) f)
    wrote (on h) (Err g) f (inr (none, power, inl (full, no_room, chip, view, space))) =
        refused h g 9 (ap (λ k. refusal_number k.refusal) full) refl refl (follows_again meaning c d size h (power ∙ ap off_by full) chip view space f)
    wrote (on h) (Err g) f (inr (none, power, inr (fails, left))) = (
      off h (step h call),
      moves_dark h call (Err g) (lost_number g (chip_of meaning d) fails.lost),
      subst (λ k. FollowsOff meaning h k d) (sym (stepped h)) (failed_follows h f g power fails left),
    )
    wrote (on h) (Ok (Data page)) f k = absurd k
    wrote (on h) (Ok (Marks page len)) f k = absurd k
    wrote (off h h') (Ok Done) f (none, power, works) = absurd (never_none c.off a (length bytes) f.fault f.power none)
    wrote (off h h') (Err g) f (inl (refusal, same)) = (
      off h h',
      stays_dark h h' call (Err g) (ap (λ k. refusal_number k.refusal) (same_fault c.off a (length bytes) f.fault g f.power refusal) ∙ f.number),
      subst (FollowsOff meaning h h') (sym same) f,
    )
    wrote (off h h') (Err g) f (inr (none, power, works)) = absurd (never_none c.off a (length bytes) f.fault f.power none)
    wrote (off h h') (Ok (Data page)) f k = absurd k
    wrote (off h h') (Ok (Marks page len)) f k = absurd k

-- The two writes.

module _ {C : Type 0} (meaning : C → Pages) (p : Phase) (c d : Working C) (a : DiskAddress) (bytes : Bor (List ℕ)) (x : Answer) where
  pub wrote_dirty : d.journal.geometry ≡ c.journal.geometry → Follows meaning p c → Serves meaning c (WriteDirty a bytes) x d
      → (next : Phase) × Moves p (WriteDirty a bytes) x next × Follows meaning next d
  wrote_dirty size f h = wrote meaning true a.0 bytes.now c d size (WriteDirty a bytes) (λ h. refl) (λ h x. tt) p x f h

  pub wrote_clean : d.journal.geometry ≡ c.journal.geometry → Follows meaning p c → Serves meaning c (WriteClean a bytes) x d
      → (next : Phase) × Moves p (WriteClean a bytes) x next × Follows meaning next d
  wrote_clean size f h = wrote meaning false a.0 bytes.now c d size (WriteClean a bytes) (λ h. refl) (λ h x. tt) p x f h
