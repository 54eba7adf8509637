use Rattle.rx_spec.proofs.Prelude.{rules, ◌+◌, ◌==◌, ap, get_or}
use Rattle.std.proofs.lemmas.Iterator.{YieldsList-from_slice}
use Rattle.std.proofs.lemmas.Iterator.Consumers.{YieldsList-at, count_from_yields_List}
use Rattle.std.proofs.lemmas.Iterator.Search.{YieldsList-from_take_while}
use Rattle.rx_dense.proofs.dfa.states.range_end.Goals as goal

pub returns-clause-value : goal.returns-clause-value
returns-clause-value c =
    ap (λ n. c.args.first + n)
    (count_from_yields_List c.take_while.result _ c.count.ensures.ran
    (YieldsList-from_take_while _ (λ id. id == (get_or c.args.transitions.now c.args.first 0))
    (YieldsList-at c.take_while.ensures.source (YieldsList-from_slice _ c.iter.ensures.rest))
    c.take_while.ensures.closure c.take_while.ensures.done
    (λ x b q k. search rules)))
