-- The points of a cut by other names: the same tables, with pages that read the same where the table marks them.
use Rattle.std.proofs.Common.{◌≡◌, ℕ, ◌<◌, true, sym, ap, ◌∙◌, subst}
use Rattle.device.specs.Chips.{Pages, data_page_at}
use Rattle.table.specs.Tables.{marked_at}
use Rattle.crash.specs.Crash.{Finds}
use Rattle.journal.specs.Points.{Point, Left}

-- y is the point x again: the same table, and its marked pages read the same
pub record SamePoint (D : ℕ) (x y : Point) : Type 0 where
  pub table : y.table ≡ x.table
  pub pages : (i : ℕ) → i < D → marked_at x.table i ≡ true → x.pages (data_page_at i) ≡ y.pages (data_page_at i)

pub left_turn : (D : ℕ) (m : Pages) (A B : Point → Type 0) → ((x : Point) → A x → (y : Point) × B y × SamePoint D x y) → Left D m A → Left D m B
left_turn D m A B f h s l =
    let (x, a, reads, found) = h s l in
    let (y, b, same) = f x a in (
      y,
      b,
      (λ i k e. let e' : marked_at x.table i ≡ true = ap (λ t. marked_at t i) (sym same.table) ∙ e in reads i k e' ∙ same.pages i k e'),
      (found.0, found.1, subst (λ t. Finds D s found.0 found.1 t) (sym same.table) found.2),
    )
