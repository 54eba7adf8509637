use Rattle.rx_spec.proofs.Prelude.{common_steps, arith}
use Rattle.rx_determinize.proofs.MatchingLaws.{labels_none}
use Rattle.rx_determinize.proofs.states.States.matches.Goals as goal

pub places-init : goal.places-init
places-init c = labels_none c.args.dfa.now c.new-matches.result c.new-matches.ensures.empty

pub returns : goal.returns
returns c = grind (arith, common_steps)
