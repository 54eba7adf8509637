use Rattle.rx_spec.proofs.Prelude.{◌≡◌, take}
use Rattle.rx_determinize.proofs.matches.patterns.Given as goal

abbrev pub invariant-loop-pattern : goal.invariant-loop-pattern
invariant-loop-pattern l = l.patterns.items ≡ take l.pattern-index l.label
