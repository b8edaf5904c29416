-- A run, one call after another: how it begins, and one call more at its end.
use Rattle.std.proofs.Common.{◌≡◌, ℕ, zero, suc, ◌+◌, ◌<◌, false, List, [], ◌∷◌, ◌++◌, length, get_or, take, sym, refl, ap, ◌∙◌, subst}
use Rattle.std.proofs.lemmas.List.{take_more}
use Rattle.device.specs.Chips.{State, Pages}
use Rattle.layout.specs.Geometry.{data_pages}
use Rattle.table.specs.Tables.{empty_table, held}
use Rattle.recovery.specs.Looking.{shown}
use Rattle.journal.specs.Notes.{Noted, noted, pages_of, formed}
use Rattle.engine.specs.declared.memory.Memory.{Memory}
use Rattle.engine.specs.Works.{Holding, Begun}
use Rattle.cache.specs.Views.{Working, Bare, ReadyToOpen}
use Rattle.cache.specs.Caches.{Opens}
use Rattle.history.specs.declared.calls.Call.{Call}
use Rattle.history.specs.Answers.{Answer}
use Rattle.history.specs.Histories.{Phase, Moves, Runs, at_first}
use Rattle.history.specs.Histories.Phase.{on}
use Rattle.history.specs.Serving.{Serves}
use Rattle.history.specs.Following.{Agrees, Follows, FollowsOn}
use Rattle.history.proofs.Moving.{moves}

-- one call more
pub runs_push : (p : Phase) (cs : List Call) (xs : List Answer) (q : Phase) (c : Call) (x : Answer) (r : Phase) → Runs p cs xs q → Moves q c x r
    → Runs p (cs ++ (c ∷ [])) (xs ++ (x ∷ [])) r
runs_push p [] [] q c x r e h = let P : Phase → Type 0 = λ k. Moves k c x r in (r, subst P e h, refl)
runs_push p [] (y ∷ xs) q c x r h _ = absurd h
runs_push p (b ∷ cs) [] q c x r h _ = absurd h
runs_push p (b ∷ cs) (y ∷ xs) q c x r (next, first, rest) h = (next, first, runs_push next cs xs q c x r rest h)

-- the calls so far led to a phase that the cache follows
abbrev pub Reached : {C : Type 0} → (C → Pages) → List Call → List Answer → Working C → Type 0
Reached meaning cs xs c = (p : Phase) × Runs (on at_first) cs xs p × Follows meaning p c

-- one more call was served: the cache follows where it leads
pub reached_more : {C : Type 0} (meaning : C → Pages) (cs : List Call) (i : ℕ) (xs xs' : List Answer) (c d : Working C) (call : Call) (x : Answer)
    → i < length cs → call ≡ get_or cs i call → xs' ≡ xs ++ (x ∷ []) → d.journal.geometry ≡ c.journal.geometry
    → Serves meaning c call x d → Reached meaning (take i cs) xs c → Reached meaning (take (i + 1) cs) xs' d
reached_more meaning cs i xs xs' c d call x within read pushed size h (p, ran, follows) =
    let (next, moved, follows') = moves meaning p c d call x size follows h in
    let longer : take (i + 1) cs ≡ take i cs ++ (call ∷ []) = take_more cs i call within ∙ ap (λ y. take i cs ++ (y ∷ [])) (sym read) in
    (next, rw (longer, pushed) (runs_push (on at_first) (take i cs) xs p call x next ran moved), follows')

-- The beginning: a formed chip holds no address.

pub none_held : (D a : ℕ) → held (empty_table D) a ≡ false
none_held zero a = refl
none_held (suc D) a = none_held D a

absent_all : (D : ℕ) (v : Noted) (pages : ℕ → State) → v ≡ formed D → Agrees at_first v.table pages
absent_all D v pages e a = ap (λ w. held w.table a) e ∙ none_held D a

-- a cache that opens on a formed chip follows the history in which every address is absent
pub follows_at_first : {C : Type 0} (meaning : C → Pages) (m : Pages) (b : Bare C) (w : Memory) (c : Working C) → ReadyToOpen (meaning b.chip) w
    → Begun (data_pages m.size) m (meaning b.chip) w.journal w.space → Opens meaning b w c → FollowsOn meaning at_first c
follows_at_first meaning m b w c ready begun opens =
    let pages = shown (meaning c.chip) in
    let t = (noted w.journal).table in
    let nothing : Agrees at_first t pages = absent_all (data_pages m.size) (noted w.journal) pages begun.as_formed in
    let sized : data_pages m.size ≡ pages_of w.journal = ap data_pages (sym begun.size ∙ ready.fits) in
    let held_still : Holding (pages_of w.journal) (meaning b.chip) (noted w.journal) w.space t =
    subst (λ D. Holding D (meaning b.chip) (noted w.journal) w.space t) sized begun.holding in
    record {
      power = opens.on;
      table = subst (λ j. Agrees at_first (noted j).table pages) (sym opens.journal) nothing;
      committed = t;
      holding = rw (opens.chip, opens.journal, opens.space) held_still;
      agrees = nothing;
    }
