use Rattle.std.proofs.Common.{true, false, ap, ◌∙◌, get_or, arith}
use Rattle.std.proofs.lemmas.List.{get_or-take, get_or-replicate}
use Rattle.space.proofs.blanks.Space.all_blank.Goals as goal

pub returns-clause-each : goal.returns-clause-each
returns-clause-each c i l =
    ap (λ xs. get_or xs i false) c.truncate.ensures.items
    ∙ get_or-take c.data_pages.result _ i false (omega (arith, c.data_pages.ensures))
    ∙ ap (λ xs. get_or xs i false) c.from-blank.ensures.0 ∙ get_or-replicate 448 i true false (omega arith)
