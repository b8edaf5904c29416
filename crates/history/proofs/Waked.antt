-- A power-on: recovery comes out at a table that agrees with the history, or with one of the two where power had failed in a call; refused, it leaves no new way.
use Rattle.std.proofs.Common.{◌≡◌, ℕ, ◌≤◌, ◌⊎◌, length, Some, None, Ok, Err, Result, sym, refl, ap, ◌∙◌, subst, inl, inr, ⊎_elim, arith}
use Rattle.device.specs.declared.faults.Fault.{Fault}
use Rattle.device.specs.Cells.{reads, Ends, Leaves}
use Rattle.device.specs.Chips.{State, Pages, Tears, data_page_at}
use Rattle.layout.specs.declared.chip_size.Geometry.{Geometry}
use Rattle.layout.specs.Geometry.{data_pages, log_pages}
use Rattle.recovery.specs.Looking.{shown, Lost}
use Rattle.recovery.specs.Recovering.{Found, Recovered, Failed}
use Rattle.recovery.proofs.OneAnswer.{finds_answer}
use Rattle.recovery.proofs.Wholly.{logged_length}
use Rattle.journal.specs.declared.memory.Journal.{Journal}
use Rattle.space.specs.declared.blanks.Space.{Space}
use Rattle.cache.specs.Views.{Working}
use Rattle.history.specs.declared.calls.Call.TheVariants.{PowerOn}
use Rattle.history.specs.Answers.{Answer}
use Rattle.history.specs.declared.calls.Served.TheVariants.{Done, Data, Marks}
use Rattle.journal.specs.Notes.{noted, pages_of}
use Rattle.journal.specs.Points.{Point, point, Left}
use Rattle.engine.specs.Works.{CutTo, Woken, StaysDark}
use Rattle.cache.specs.Caches.{chip_of, view_of, PowerCall}
use Rattle.history.specs.Histories.{History}
use Rattle.history.specs.Histories.Phase.{on, off}
use Rattle.history.specs.Serving.{Plain}
use Rattle.history.specs.Following.{Agrees, FollowsOn, FollowsOff}
use Rattle.journal.proofs.Leaving.{Firm, left_more, left_of_holds}
use Rattle.journal.proofs.Settledness.{settled_as}
use Rattle.history.proofs.Agreeing.{agrees_below}
use Rattle.history.proofs.Outcomes.{AgreesOne, agrees_at, Next, done, darkened, still_dark, follows_on}
use Rattle.history.proofs.Phasing.{lost_number, same_size}

-- the type keeps a chip small enough
few_pages : (g : Geometry) → data_pages g.blocks ≤ 448
few_pages g = let l : g.blocks ≤ 64 = g.few in omega arith

-- what a chip shows once a cut has settled it is one of the ways in which the cut may leave it
cut_way : (m m' : Pages) → CutTo m m' → Leaves Tears m.cell (shown m')
cut_way m m' cut p = let (s, e, k) = cut p in subst (Ends Tears (m.cell p)) (sym (ap reads e)) k

-- a table that recovery finds has an entry for each data page
found_long : (D : ℕ) (s : ℕ → State) (f : Found) → Recovered D s f → length f.table ≡ D
found_long D s f h = logged_length D s f.area (log_pages D) h.base f.table f.next h.log ∙ h.entries.long

-- recovery has one answer
same_table : (D : ℕ) → D ≤ 448 → (s : ℕ → State) (f g : Found) → Recovered D s f → Recovered D s g → f.table ≡ g.table
same_table D small s f g a b = go (finds_answer D small s g (Ok f) b a)
  where
    go : ◌≡◌ {A = Result Found Fault} (Ok f) (Ok g) → f.table ≡ g.table
    go e = let z : f ≡ g = cc in ap (λ x. x.table) z

never_both : (D : ℕ) → D ≤ 448 → (s : ℕ → State) (f : Found) (g : Fault) → Recovered D s f → Failed D s g → ⊥
never_both D small s f g a b = go (finds_answer D small s f (Err g) a b)
  where
    go : ◌≡◌ {A = Result Found Fault} (Err g) (Ok f) → ⊥
    go e = grind arith

-- Served: the table in memory and the pages that it marks are those of a point.
woken_agrees : (D : ℕ) → D ≤ 448 → (m m' : Pages) (j : Journal) (sp : Space) (h h' : History) → Left D m (AgreesOne h h') → Woken D m m' j sp
    → Agrees h (noted j).table (shown m') ⊎ Agrees h' (noted j).table (shown m')
woken_agrees D small m m' j sp h h' left w =
    let (x, among, reads, (area, n, (next, found))) = left (shown m') (cut_way m m' w.cut) in
    let same : x.table ≡ (noted j).table = same_table D small (shown m') _ w.found found w.recovered ∙ sym (ap (λ v. v.table) w.as_found) in
    let long : length x.table ≡ D = found_long D (shown m') _ found in
    let turn : (g : History) → Agrees g x.table x.pages → Agrees g (noted j).table (shown m') =
    λ g a. subst (λ t. Agrees g t (shown m')) same
    (agrees_below D g x.table x.pages (shown m') long reads a) in
    ⊎_elim (λ a. inl (turn h a)) (λ a. inr (turn h' a)) among

-- Refused: recovery cannot have met a fault, so the power is off.
dark_lost : (D : ℕ) → D ≤ 448 → (m m' : Pages) (f : Fault) (Among : Point → Type 0) → Left D m Among → StaysDark D m f m' → Lost f m' × Left D m' Among
dark_lost D small m m' f Among left (_, inl (lost, ways)) = (lost, λ s l. left s (ways s l))
dark_lost D small m m' f Among left (_, inr (_, cut, failed)) =
    let (x, among, reads, (area, n, (next, found))) = left (shown m') (cut_way m m' cut) in absurd (never_both D small (shown m') _ f found failed)

module _ {C : Type 0} (meaning : C → Pages) (c d : Working C) (size : d.journal.geometry ≡ c.journal.geometry) where
  abbrev D : ℕ
  D = pages_of c.journal

  small : D ≤ 448
  small = few_pages c.journal.geometry

  woken_on : (g : History) → d.off ≡ None → Woken D (chip_of meaning c) (chip_of meaning d) d.journal d.space → Agrees g (view_of meaning d).table (shown (chip_of meaning d))
      → FollowsOn meaning g d
  woken_on g power w a = follows_on meaning g c d size power (view_of meaning d).table w.holding a a

  dark_off : (h h' : History) (f : Fault) → d.off ≡ Some f → Lost f (chip_of meaning d) → Left D (chip_of meaning d) (AgreesOne h h') → FollowsOff meaning h h' d
  dark_off h h' f power lost left = record {
    fault = f;
    power = power;
    number = lost_number f (chip_of meaning d) lost;
    left = subst (λ n. Left n (chip_of meaning d) (AgreesOne h h')) (sym (same_size meaning c d size)) left;
  }

  -- from on: a cut may come at any time, and leaves the committed table
  module _ (h : History) (k : FollowsOn meaning h c) where
    firm : Firm D (chip_of meaning c) k.committed (shown (chip_of meaning c))
    firm i l e = settled_as (chip_of meaning c) (data_page_at i) (shown (chip_of meaning c) (data_page_at i)) (k.holding.keeps.ready.firm i l e) refl

    held_left : Left D (chip_of meaning c) (AgreesOne h h)
    held_left =
        left_more D (chip_of meaning c) (λ x. x ≡ point k.committed (shown (chip_of meaning c))) (AgreesOne h h)
        (λ x e. inl (agrees_at h k.committed (shown (chip_of meaning c)) x e k.agrees))
        (left_of_holds D (chip_of meaning c) (view_of meaning c).area (view_of meaning c).number k.committed (shown (chip_of meaning c)) k.holding.keeps.ready.holds firm)

    pub on_waked : (x : Answer) → Plain (λ r. PowerCall meaning c r d) x → Next meaning (on h) PowerOn x d
    on_waked (Ok Done) (power, w) =
        done meaning h PowerOn d refl (woken_on h power w (⊎_elim (λ a. a) (λ a. a) (woken_agrees D small (chip_of meaning c) (chip_of meaning d) d.journal d.space h h held_left w)))
    on_waked (Err f) (power, dark, _, _) =
        let (lost, left) = dark_lost D small (chip_of meaning c) (chip_of meaning d) f (AgreesOne h h) held_left dark in
        darkened meaning h PowerOn f d (lost_number f (chip_of meaning d) lost) (dark_off h h f power lost left)
    on_waked (Ok (Data page)) r = elim r [ ]
    on_waked (Ok (Marks page len)) r = elim r [ ]

  module _ (h h' : History) (k : FollowsOff meaning h h' c) where
    pub off_waked : (x : Answer) → Plain (λ r. PowerCall meaning c r d) x → Next meaning (off h h') PowerOn x d
    off_waked (Ok Done) (power, w) = go (woken_agrees D small (chip_of meaning c) (chip_of meaning d) d.journal d.space h h' k.left w)
      where
        go : Agrees h (view_of meaning d).table (shown (chip_of meaning d)) ⊎ Agrees h' (view_of meaning d).table (shown (chip_of meaning d)) → Next meaning (off h h') PowerOn (Ok Done) d
        go (inl a) = (on h, (tt, refl, inl refl), woken_on h power w a)
        go (inr a) = (on h', (tt, refl, inr refl), woken_on h' power w a)
    off_waked (Err f) (power, dark, _, _) =
        let (lost, left) = dark_lost D small (chip_of meaning c) (chip_of meaning d) f (AgreesOne h h') k.left dark in
        still_dark meaning h h' PowerOn f d (lost_number f (chip_of meaning d) lost) (dark_off h h' f power lost left)
    off_waked (Ok (Data page)) r = elim r [ ]
    off_waked (Ok (Marks page len)) r = elim r [ ]
