use Rattle.rx_spec.proofs.Prelude.{take}
use Rattle.rx_determinize.proofs.Prelude.{AreLabels}
use Rattle.rx_determinize.proofs.states.States.matches.Given as goal

-- the labels of the keys so far
abbrev pub invariant-places : goal.invariant-places
invariant-places l = AreLabels (take l.place l.self.keys) l.dfa l.matches
