use Rattle.rx_spec.proofs.Prelude.{All, IfOk, ap, ◌∙◌, subst, iterate, LiesIn, Query}
use Rattle.rx_base.specs.Input.{query_of}
use Rattle.rx_pair.specs.Matches.{items}
use Rattle.rx_regex.specs.Forms.{pair_of}
use Rattle.rx_regex.specs.Pairs.{AreTables, joined}
use Rattle.rx_regex.specs.declared.tables.Tables.{Tables}
use Rattle.rx_regex.proofs.Iterated.{iterated_by, lie_in}
use Rattle.rx_regex.proofs.tables.Built.find_iter.Goals as goal

pub returns-in-Dense-clause-value : goal.returns-in-Dense-clause-value
returns-in-Dense-clause-value c p es tables =
    let pair = pair_of (Tables.Dense c.in-Dense.pair) in
    c.find_iter.ensures.value
    ∙ (ap (λ (q : Query). items (iterate (joined pair) q)) c.whole_search-input.ensures.asked
    ∙ ap items
    (iterated_by (subst (λ (t : Tables). AreTables p es (pair_of t)) c.in-Dense.is tables) (query_of c.args.input.now)
    (record { bytes = c.whole_search-input.ensures.bytes; within = c.requires.within })))

pub returns-in-Dense-clause-within : goal.returns-in-Dense-clause-within
returns-in-Dense-clause-within c =
    lie_in (query_of c.args.input.now) c.find_iter.result
    (subst (λ (q : Query). All (λ item. IfOk item (LiesIn q)) c.find_iter.result) c.whole_search-input.ensures.asked
    c.find_iter.ensures.within)

pub returns-in-Sparse-clause-value : goal.returns-in-Sparse-clause-value
returns-in-Sparse-clause-value c p es tables =
    let pair = pair_of (Tables.Sparse c.in-Sparse.pair) in
    c.find_iter-in-Sparse.ensures.value
    ∙ (ap (λ (q : Query). items (iterate (joined pair) q)) c.whole_search-input.ensures.asked
    ∙ ap items
    (iterated_by (subst (λ (t : Tables). AreTables p es (pair_of t)) c.in-Sparse.is tables) (query_of c.args.input.now)
    (record { bytes = c.whole_search-input.ensures.bytes; within = c.requires.within })))

pub returns-in-Sparse-clause-within : goal.returns-in-Sparse-clause-within
returns-in-Sparse-clause-within c =
    lie_in (query_of c.args.input.now) c.find_iter-in-Sparse.result
    (subst (λ (q : Query). All (λ item. IfOk item (LiesIn q)) c.find_iter-in-Sparse.result)
    c.whole_search-input.ensures.asked c.find_iter-in-Sparse.ensures.within)
