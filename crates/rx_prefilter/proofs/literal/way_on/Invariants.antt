use Rattle.rx_spec.proofs.Prelude.{IfSome}
use Rattle.rx_search.specs.Starts.{IsId}
use Rattle.rx_prefilter.proofs.literal.way_on.Given as goal

abbrev pub invariant-loop-byte : goal.invariant-loop-byte
invariant-loop-byte g l = IfSome l.way (λ way. IsId (g.A.Automaton.ids l.dfa) way.to)
