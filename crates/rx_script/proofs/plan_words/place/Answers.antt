use Rattle.std.proofs.Common.{rules, ◌≡◌, refl, ◌∙◌, Some}
use Rattle.std.proofs.lemmas.Iterator.{YieldsList-from_slice}
use Rattle.std.proofs.lemmas.Iterator.Search.{position_from_yields_List}
use Rattle.rx_script.specs.Names.{all_plan_names}
use Rattle.rx_script.specs.Plans.{number_of_name}
use Rattle.rx_script.proofs.Tables.{has_name, name_found}
use Rattle.rx_script.proofs.plan_words.place.Goals as goal
use borrow.Author.Tests.{tests}

pub unwrap-requires : goal.unwrap-requires
unwrap-requires c =
    let name = c.args.name in
    let is_there : c.position.result ≡ Some (number_of_name name) =
    position_from_yields_List (has_name name) _ _ c.position.result c.position.ensures.ran
    (YieldsList-from_slice all_plan_names cc) (λ x b q k. search (rules, tests)) ∙ name_found name in
    rw is_there refl

pub returns-clause-value : goal.returns-clause-value
returns-clause-value c =
    let name = c.args.name in
    let is_there : c.position.result ≡ Some (number_of_name name) =
    position_from_yields_List (has_name name) _ _ c.position.result c.position.ensures.ran
    (YieldsList-from_slice all_plan_names cc) (λ x b q k. search (rules, tests)) ∙ name_found name in
    cc
