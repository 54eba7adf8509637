use Rattle.rx_spec.proofs.Prelude.{◌∙◌, sym}
use Rattle.rx_spec.specs.declared.Direction.{Direction}
use Rattle.rx_base.specs.Input.{query_of}
use Rattle.rx_search.proofs.InSpan.{unsplit_in_span}
use Rattle.rx_pair.proofs.regex.Regex.start_beside.Goals as goal

pub returns-clause-within : goal.returns-clause-within
returns-clause-within g c =
    let r = g.A.Automaton.table c.args.self.now.reverse in
    rw c.input_before-before.ensures.asked at
    (unsplit_in_span r Direction.Reverse (query_of c.input_before-before.result) c.find_rev_from.result
    (c.find_rev_from.ensures ∙ sym c.pass_both-on.ensures.back.answer))
