-- Evict, clean, sync and exists: what they make of the tables agrees with what the history makes of the address.
use Rattle.std.proofs.Common.{◌≡◌, ℕ, ◌+◌, Bool, true, false, cond, ◌&&◌, eqb, leb, ◌⊎◌, length, Some, None, Ok, Err, Option, Result, sym, refl, ap, ◌∙◌, subst, inl, inr, ⊎_elim, arith}
use Rattle.device.specs.declared.faults.Fault.{Fault}
use Rattle.device.specs.declared.faults.Refusal.TheVariants.{BadSize, OutOfRange, NotHeld}
use Rattle.device.specs.declared.places.DiskAddress.{DiskAddress}
use Rattle.device.specs.Faults.{refusal_number}
use Rattle.device.specs.Chips.{State, Pages, data_page_at}
use Rattle.layout.specs.declared.entries.Mark.{Mark}
use Rattle.layout.specs.declared.entries.Mark.TheVariants.{Empty, Clean, Dirty}
use Rattle.table.specs.Tables.{Table, held, mark_of, without, cleaned}
use Rattle.recovery.specs.Looking.{shown}
use Rattle.recovery.specs.Recovering.{cache_fault}
use Rattle.cache.specs.Views.{Working}
use Rattle.history.specs.declared.calls.Call.{Call}
use Rattle.history.specs.declared.calls.Call.TheVariants as calls
use Rattle.history.specs.Answers.{Answer}
use Rattle.history.specs.declared.calls.Served.TheVariants.{Done, Data, Marks}
use Rattle.journal.specs.Notes.{pages_of}
use Rattle.journal.specs.Points.{Point, point, Either}
use Rattle.space.specs.Worlds.{World, world}
use Rattle.engine.specs.Moves.{roomy, evicting, evicted, made_clean}
use Rattle.engine.specs.Works.{Holding, Cleans}
use Rattle.cache.specs.Refusals.{unless_off, held_refusal, exists_refusal, off_by}
use Rattle.cache.specs.Caches.{chip_of, view_of, EvictCall, CleanWork, CleanCall, SyncCall}
use Rattle.history.specs.Histories.{History, Says, step}
use Rattle.history.specs.Histories.Phase.{on}
use Rattle.history.specs.Serving.{Plain, ExistsServes}
use Rattle.history.specs.Following.{Agrees, FollowsOn}
use Rattle.history.proofs.Agreeing.{agrees_pages, agrees_without, agrees_lapsed, agrees_cleaned}
use Rattle.engine.proofs.Flushing.{commit_apart, commit_table}
use Rattle.journal.proofs.Leaving.{left_more}
use Rattle.history.proofs.Sitting.{committing_same, roomy_same}
use Rattle.history.proofs.Outcomes.{AgreesOne, agrees_at, Next, done, refused, failed, follows_on}

-- The table and the data pages through each change.

-- the data pages read in the one world as in the other
abbrev DataAs : World → World → Type 0
DataAs w u = (i : ℕ) → u.pages (data_page_at i) ≡ w.pages (data_page_at i)

module _ (D : ℕ) (w : World) (a : ℕ) where
  evicted_table : (evicted D a w).noted.table ≡ without w.noted.table a
  evicted_table = commit_table D (evicting a (roomy D w)).noted ∙ ap (λ t. without t a) (roomy_same D w).table

  evicted_data : DataAs w (evicted D a w)
  evicted_data i = commit_apart D (evicting a (roomy D w)).noted (roomy D w).pages i ∙ (roomy_same D w).pages i

  cleaned_table : (made_clean D a w).noted.table ≡ cleaned w.noted.table a
  cleaned_table = ap (λ t. cleaned t a) (roomy_same D w).table

-- a table agrees with a history, which is that of another world with the same data pages
agrees_turned : (g : History) (t u : Table) (w after : World) → u ≡ t → DataAs w after → Agrees g t w.pages → Agrees g u after.pages
agrees_turned g t u w after e same a = subst (λ x. Agrees g x after.pages) (sym e) (agrees_pages g t w.pages after.pages (λ i _. same i) a)

moved_data : (w after made : World) → after ≡ made → DataAs w made → DataAs w after
moved_data w after made e same i = ap (λ x. x.pages (data_page_at i)) e ∙ same i

-- Refusals

held_bright : (t : Table) (a : ℕ) (f : Fault) → held_refusal t a ≡ Some f → eqb (refusal_number f.refusal) 1 ≡ false
held_bright t a f e = go (held t a) e
  where
    go : (b : Bool) → cond b None (Some (cache_fault a NotHeld)) ≡ Some f → eqb (refusal_number f.refusal) 1 ≡ false
    go true e = grind arith
    go false e = let z : cache_fault a NotHeld ≡ f = cc in ap (λ g. eqb (refusal_number g.refusal) 1) (sym z)

exists_bright : (first len : ℕ) (f : Fault) → exists_refusal None first len ≡ Some f → eqb (refusal_number f.refusal) 1 ≡ false
exists_bright first len f e = go (leb 1 len && leb len 512) (leb (first + len) 4294967296) e
  where
    go : (b c : Bool) → cond b (cond c None (Some (cache_fault first OutOfRange))) (Some (cache_fault first BadSize)) ≡ Some f → eqb (refusal_number f.refusal) 1 ≡ false
    go true true e = grind arith
    go true false e = let z : cache_fault first OutOfRange ≡ f = cc in ap (λ g. eqb (refusal_number g.refusal) 1) (sym z)
    go false c e = let z : cache_fault first BadSize ≡ f = cc in ap (λ g. eqb (refusal_number g.refusal) 1) (sym z)

module _ {C : Type 0} (meaning : C → Pages) (h : History) (c d : Working C) (size : d.journal.geometry ≡ c.journal.geometry) (k : FollowsOn meaning h c) where
  abbrev D : ℕ
  D = pages_of c.journal

  abbrev before : World
  before = world (chip_of meaning c) (view_of meaning c) c.space

  abbrev after : World
  after = world (chip_of meaning d) (view_of meaning d) c.space

  -- while on, the conditions are those of the call alone
  when_on : (other : Option Fault) (f : Fault) → unless_off c.off other ≡ Some f → other ≡ Some f
  when_on other f e = subst (λ o. unless_off o other ≡ Some f) k.power e

  unchanged : (call : Call) (f : Fault) → eqb (refusal_number f.refusal) 1 ≡ false → Says h call (Err f) → d ≡ c → Next meaning (on h) call (Err f) d
  unchanged call f bright says e = refused meaning h call f d bright says (subst (FollowsOn meaning h) (sym e) k)

  -- the committed table, and the one in memory, as points
  at_committed : (x : Point) → x ≡ point k.committed (shown (chip_of meaning c)) → Agrees h x.table x.pages
  at_committed x e = agrees_at h k.committed (shown (chip_of meaning c)) x e k.agrees

  at_memory : (x : Point) → x ≡ point (view_of meaning c).table (shown (chip_of meaning c)) → Agrees h x.table x.pages
  at_memory x e = agrees_at h (view_of meaning c).table (shown (chip_of meaning c)) x e k.table

  at_either : (h' : History) (x : Point) → Either (point k.committed (shown (chip_of meaning c))) (point (view_of meaning c).table (shown (chip_of meaning c))) x → AgreesOne h h' x
  at_either h' x (inl e) = inl (at_committed x e)
  at_either h' x (inr e) = inl (at_memory x e)

  -- the space is as it was
  spaced : (u : Table) → d.space ≡ c.space → Holding D (chip_of meaning d) (view_of meaning d) c.space u → Holding D (chip_of meaning d) (view_of meaning d) d.space u
  spaced u e holding = subst (λ sp. Holding D (chip_of meaning d) (view_of meaning d) sp u) (sym e) holding

  -- Evict

  module _ (a : DiskAddress) where
    evict_point : (x : Point)
        → (x ≡ point k.committed (shown (chip_of meaning c)))
        ⊎ ((x ≡ point (view_of meaning c).table (shown (chip_of meaning c))) ⊎ (x ≡ point (without (view_of meaning c).table a.0) (shown (chip_of meaning c))))
        → AgreesOne h (step h (calls.Evict a)) x
    evict_point x (inl e) = inl (at_committed x e)
    evict_point x (inr (inl e)) = inl (at_memory x e)
    evict_point x (inr (inr e)) = inr (agrees_at (step h (calls.Evict a)) _ _ x e (agrees_without h (view_of meaning c).table (shown (chip_of meaning c)) k.table a.0))

    pub on_evict : (x : Answer) → Plain (λ r. EvictCall meaning a.0 c r d) x → Next meaning (on h) (calls.Evict a) x d
    on_evict (Ok Done) (_, power, ((_, (e, _), keeps), space)) =
        let g = step h (calls.Evict a) in
        let (u, holding, is) = keeps k.committed k.holding in
        let now = agrees_turned g _ (view_of meaning d).table before after (ap (λ w. w.noted.table) e ∙ evicted_table D before a.0)
        (moved_data before after _ e (evicted_data D before a.0)) (agrees_without h (view_of meaning c).table (shown (chip_of meaning c)) k.table a.0) in
        done meaning h (calls.Evict a) d tt (follows_on meaning g c d size power u (spaced u space holding) now (subst (λ t. Agrees g t (shown (chip_of meaning d))) (sym is) now))
    on_evict (Err f) (inl (r, e)) = unchanged (calls.Evict a) f (held_bright (view_of meaning c).table a.0 f (when_on _ f r)) tt e
    on_evict (Err f) (inr (_, dark, ((fails, left), _))) =
        failed meaning h (calls.Evict a) f c d size fails.lost dark (left_more D (chip_of meaning d) _ _ evict_point (left k.committed k.holding))
    on_evict (Ok (Data page)) r = elim r [ ]
    on_evict (Ok (Marks page len)) r = elim r [ ]

    -- Clean

    -- what agreed still agrees once the bytes are no longer kept
    lapsed : (t : Table) (pages : ℕ → State) → Agrees h t pages → Agrees (step h (calls.Clean a)) t pages
    lapsed t pages agrees = agrees_lapsed h t pages agrees a.0

    cleaned_served : d.off ≡ None → Cleans D a.0 (chip_of meaning c) (view_of meaning c) c.space (Ok tt) (chip_of meaning d) (view_of meaning d) → d.space ≡ c.space
        → FollowsOn meaning (step h (calls.Clean a)) d
    cleaned_served power (_, e, keeps) space =
        let g = step h (calls.Clean a) in
        let (u, holding, is) = keeps k.committed k.holding in
        let same : DataAs before after = moved_data before after _ e (roomy_same D before).pages in
        follows_on meaning g c d size power u (spaced u space holding)
        (agrees_turned g _ (view_of meaning d).table before after (ap (λ w. w.noted.table) e ∙ cleaned_table D before a.0) same
        (agrees_cleaned h (view_of meaning c).table (shown (chip_of meaning c)) k.table a.0))
        (⊎_elim
        (λ same_table. agrees_turned g k.committed u before after same_table same (lapsed k.committed (shown (chip_of meaning c)) k.agrees))
        (λ new_table. agrees_turned g (view_of meaning c).table u before after new_table same (lapsed (view_of meaning c).table (shown (chip_of meaning c)) k.table))
        is)

    clean_served : (mark : Mark) → d.off ≡ None → CleanWork meaning mark a.0 c (Ok tt) d → FollowsOn meaning (step h (calls.Clean a)) d
    clean_served Empty power r = elim r [ ]
    clean_served Clean power (_, e) =
        subst (FollowsOn meaning (step h (calls.Clean a))) (sym e)
        (record {
          power = k.power;
          table = lapsed (view_of meaning c).table (shown (chip_of meaning c)) k.table;
          committed = k.committed;
          holding = k.holding;
          agrees = lapsed k.committed (shown (chip_of meaning c)) k.agrees;
        })
    clean_served Dirty power (work, space) = cleaned_served power work space

    clean_failed : (mark : Mark) (f : Fault) → d.off ≡ off_by f → CleanWork meaning mark a.0 c (Err f) d → Next meaning (on h) (calls.Clean a) (Err f) d
    clean_failed Empty f dark r = elim r [ ]
    clean_failed Clean f dark (r, _) = absurd (never f r)
      where
        never : (f : Fault) → ◌≡◌ {A = Result (Unit {0}) Fault} (Err f) (Ok tt) → ⊥
        never f e = grind arith
    clean_failed Dirty f dark ((fails, left), _) =
        failed meaning h (calls.Clean a) f c d size fails.lost dark (left_more D (chip_of meaning d) _ _ (at_either (step h (calls.Clean a))) (left k.committed k.holding))

    pub on_clean : (x : Answer) → Plain (λ r. CleanCall meaning a.0 c r d) x → Next meaning (on h) (calls.Clean a) x d
    on_clean (Ok Done) (_, power, work) = done meaning h (calls.Clean a) d tt (clean_served (mark_of (view_of meaning c).table a.0) power work)
    on_clean (Err f) (inl (r, e)) = unchanged (calls.Clean a) f (held_bright (view_of meaning c).table a.0 f (when_on _ f r)) tt e
    on_clean (Err f) (inr (_, dark, work)) = clean_failed (mark_of (view_of meaning c).table a.0) f dark work
    on_clean (Ok (Data page)) r = elim r [ ]
    on_clean (Ok (Marks page len)) r = elim r [ ]

    -- Exists: the cache is only looked at

    pub on_exists : (len : ℕ) (x : Answer) → ExistsServes meaning a.0 len c x d → Next meaning (on h) (calls.Exists a len) x d
    on_exists len (Ok Done) r = elim r [ ]
    on_exists len (Ok (Data page)) r = elim r [ ]
    on_exists len (Ok (Marks page n)) (e, _, _) = (on h, (tt, refl), subst (FollowsOn meaning h) (sym e) k)
    on_exists len (Err f) (e, (buf, _, _, (r, _))) =
        unchanged (calls.Exists a len) f (exists_bright a.0 (length buf) f (subst (λ o. exists_refusal o a.0 (length buf) ≡ Some f) k.power r)) tt e

  -- Sync

  pub on_sync : (x : Answer) → Plain (λ r. SyncCall meaning c r d) x → Next meaning (on h) calls.Sync x d
  on_sync (Ok Done) (_, power, ((_, (e, _), keeps), space)) =
      let (u, holding, is) = keeps k.committed k.holding in
      let same : DataAs before after = moved_data before after _ e (committing_same D before).pages in
      let old : (t : Table) → t ≡ (view_of meaning c).table → Agrees h t (shown (chip_of meaning d)) =
      λ t e. agrees_turned h (view_of meaning c).table t before after e same k.table in
      done meaning h calls.Sync d tt
      (follows_on meaning h c d size power u (spaced u space holding) (old (view_of meaning d).table (ap (λ w. w.noted.table) e ∙ commit_table D (view_of meaning c))) (old u is))
  on_sync (Err f) (inl (r, _)) = absurd (never f (when_on None f r))
    where
      never : (f : Fault) → ◌≡◌ {A = Option Fault} None (Some f) → ⊥
      never f e = grind arith
  on_sync (Err f) (inr (_, dark, ((fails, left), _))) =
      failed meaning h calls.Sync f c d size fails.lost dark (left_more D (chip_of meaning d) _ _ (at_either h) (left k.committed k.holding))
  on_sync (Ok (Data page)) r = elim r [ ]
  on_sync (Ok (Marks page len)) r = elim r [ ]
