use Rattle.rx_spec.proofs.Prelude.{◌≡◌, None, ap, rules, subst, sym, ◌∙◌, All, IfOk, join, LiesIn, Query}
use Rattle.rx_base.specs.Input.{query_of}
use Rattle.rx_base.specs.Searcher.{Search}
use Rattle.rx_pair.specs.Matches.{items, matches_left}
use Rattle.rx_pair.proofs.Iterated.{items_lie}
use Rattle.rx_pair.proofs.find_matches.FindMatches.new.Goals as goal

pub returns-clause-within : goal.returns-clause-within
returns-clause-within g c =
    let f = g.A.Automaton.table c.args.regex.now.forward in
    let r = g.A.Automaton.table c.args.regex.now.reverse in
    let q = query_of c.args.input.now in
    let same : query_of c.earliest-all.result ≡ q = search rules in
    let whole : c.new-2.result ≡ record { query = q; last_end = None } =
    c.new-2.ensures ∙ ap (λ (asked : Query). record { query = asked; last_end = None }) same in
    subst (λ (s : Search). All (λ item. IfOk item (LiesIn q)) (items (matches_left (join f r) s))) (sym whole)
    (items_lie q f r)
