use Rattle.std.proofs.Common.{◌||◌, sym, refl, ◌∙◌, rules, tests}
use Rattle.std.proofs.lemmas.Iterator.{YieldsList-from_slice}
use Rattle.std.proofs.lemmas.Iterator.Search.{any_from_yields_List}
use Rattle.std.proofs.lemmas.List.Recursion.{same_from_clauses}
use Rattle.std.specs.List.{list_any}
use Rattle.table.specs.Tables.{holds, held}
use Rattle.recovery.proofs.checkpoint.held_in.Goals as goal

pub returns : goal.returns
returns c =
    let a = c.args.address.0 in
    any_from_yields_List (holds a) _ _ c.any.result c.any.ensures.ran (YieldsList-from_slice c.args.entries.now cc) (λ x b q k. search (rules, tests))
    ∙ sym (same_from_clauses (λ xs. held xs a) (list_any (holds a)) (λ x r. holds a x || r) refl (λ _ _. refl) (λ _ _. refl) c.args.entries.now)
