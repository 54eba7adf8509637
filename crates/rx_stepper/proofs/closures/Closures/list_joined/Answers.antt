use Rattle.rx_spec.proofs.Prelude.{arith, rules, ◌++◌, common_steps, flat_map, id_count, closure}
use Rattle.rx_stepper.proofs.Prelude.{few_firsts, meaning, passing_of}
use Rattle.rx_stepper.proofs.StampedSearch.{begun, both_given, all_met}
use Rattle.rx_stepper.proofs.closures.Closures.list_joined.Goals as goal

pub add-requires-clause-searched : goal.add-requires-clause-searched
add-requires-clause-searched c = search (rules, begun)

pub returns-clause-rows : goal.returns-clause-rows
returns-clause-rows c = grind (arith, common_steps, both_given)

pub returns-clause-few : goal.returns-clause-few
returns-clause-few c =
    let reached = closure (meaning c.args.self.now.nfa.now).rows (passing_of c.args.passing.now) in
    few_firsts (flat_map reached (c.args.from.first.now ++ c.args.from.second.now)) id_count (returns-clause-rows c)
    c.add-2.ensures.searched.ids

pub returns-clause-met : goal.returns-clause-met
returns-clause-met c = grind (arith, common_steps, all_met)
