use Rattle.std.proofs.Common.{◌≡◌, Bool, true, false, ℕ, length, get_or, rules, tests}
use Rattle.std.proofs.lemmas.Iterator.{first_from_Range}
use Rattle.table.proofs.Choosing.{found_from}
use Rattle.table.proofs.choices.first_from.Goals as goal

pub returns : goal.returns
returns c =
    let test : ℕ → Bool = λ i. get_or c.args.blank.now i false in
    found_from test (length c.args.blank.now) c.args.low c.find.result c.map.result _
    (first_from_Range _ _ _ c.find.result (λ i. test i ≡ true) (λ i. test i ≡ false) c.find.ensures.ran (λ x q k. search (rules, tests)) (λ x q k. search (rules, tests)))
    c.map.ensures.cases (λ i p l h. search rules)
