use Rattle.rx_spec.proofs.Prelude.{◌∙◌, sym}
use Rattle.rx_spec.specs.declared.Direction.{Direction}
use Rattle.rx_base.specs.Input.{query_of}
use Rattle.rx_search.proofs.InSpan.{unsplit_in_span}
use Rattle.rx_pair.proofs.regex.Regex.end_on.Goals as goal

pub returns-in-Some-clause-within : goal.returns-in-Some-clause-within
returns-in-Some-clause-within g c =
    let u = rw c.in-Some.is at c.requires.ahead in
    unsplit_in_span (g.A.Automaton.table c.args.self.now.forward) Direction.Forward (query_of c.args.input.now)
    c.find_fwd_from.result (c.find_fwd_from.ensures ∙ sym u.answer)
