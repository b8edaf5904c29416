-- What recovery finds is one thing: it is found stage by stage, and each stage has one outcome.
use Rattle.std.proofs.Common.{◌≡◌, ℕ, ◌≤◌, Ok, Err, Result, refl, inl, inr}
use Rattle.device.specs.declared.faults.Fault.{Fault}
use Rattle.device.specs.Chips.{State}
use Rattle.layout.specs.declared.areas.Area.{Area}
use Rattle.table.specs.Tables.{Table}
use Rattle.recovery.specs.Recovering.{Found, Recovered, Recovers}
use Rattle.recovery.specs.Recovering.Failed.{no_trailer, first_trailer, second_trailer, same_number, entry_page, log_page, data_page}
use Rattle.recovery.specs.Answer.{OneAnswer, ZeroFollowsTwo, SameNumberRefused}
use Rattle.recovery.proofs.Stages.{OneResult, Then, then_one, AreaStage, EntryStage, LogStage, DataStage, area_one, entry_one, log_one, data_one}
use Rattle.recovery.proofs.Stages.BadTrailers.{none, first, second, same}

module _ (D : ℕ) (s : ℕ → State) where
  abbrev found : Area → ℕ → Table → ℕ → Found
  found area n t m = record { table = t; area = area; number = n; next = m }

  abbrev BehindLog : Area → ℕ → Table → Result Found Fault → Type 0
  BehindLog area n t = Then (LogStage D s area t) (λ x. DataStage D s (found area n x.0 x.1))

  abbrev BehindArea : Area → ℕ → Result Found Fault → Type 0
  BehindArea area n = Then (EntryStage D s area) (BehindLog area n)

  abbrev Staged : Result Found Fault → Type 0
  Staged = Then (AreaStage D s) (λ x. BehindArea x.0 x.1)

  staged : (r : Result Found Fault) → Recovers D s r → Staged r
  staged (Ok f) h = inr ((f.area, f.number), h.active, inr (h.base, h.entries, inr ((f.table, f.next), h.log, (refl, h.backed))))
  staged (Err f) (no_trailer e x y) = inl (f, none e x y, refl)
  staged (Err f) (first_trailer e x) = inl (f, first e x, refl)
  staged (Err f) (second_trailer e x y) = inl (f, second e x y, refl)
  staged (Err f) (same_number e n x y) = inl (f, same e n x y, refl)
  staged (Err f) (entry_page area n j t e active l h stuck) = inr ((area, n), active, inl (f, (j, t, e, l, h, stuck), refl))
  staged (Err f) (log_page area n j t u m e active l h k stuck) = inr ((area, n), active, inr (t, h, inl (f, (j, u, m, e, l, k, stuck), refl)))
  staged (Err f) (data_page area n i t u m e active l h k b stuck) = inr ((area, n), active, inr (t, h, inr ((u, m), k, (i, e, l, b, stuck))))

  staged_one : D ≤ 448 → OneResult Staged
  staged_one small =
      then_one (AreaStage D s) (λ x. BehindArea x.0 x.1) (area_one D s)
      (λ x active. then_one (EntryStage D s x.0) (BehindLog x.0 x.1) (entry_one D s small x.0 x.1 active.own)
      (λ t entered. then_one (LogStage D s x.0 t) (λ y. DataStage D s (found x.0 x.1 y.0 y.1)) (log_one D s x.0 t)
      (λ y logged. data_one D s (found x.0 x.1 y.0 y.1))))

pub one_answer : OneAnswer
one_answer D small s r r' h k = staged_one D s small r r' (staged D s r h) (staged D s r' k)

-- where there is a table to find, recovery answers it
pub finds_answer : (D : ℕ) → D ≤ 448 → (s : ℕ → State) (f : Found) (r : Result Found Fault) → Recovered D s f → Recovers D s r → r ≡ Ok f
finds_answer D small s f r h k = one_answer D small s r (Ok f) k h

pub zero_follows_two : ZeroFollowsTwo
zero_follows_two D s x y = record { own = y; other = inr (2, x, refl) }

pub same_number_refused : SameNumberRefused
same_number_refused D s x y = same_number refl 1 x y
