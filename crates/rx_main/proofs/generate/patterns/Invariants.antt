use Rattle.rx_spec.proofs.Prelude.{◌≡◌}
use Rattle.rx_main.specs.Gen.{gen_patterns}
use Rattle.rx_main.proofs.generate.patterns.Given as goal

abbrev pub invariant-patterns : goal.invariant-patterns
invariant-patterns l = l.exprs.items ≡ gen_patterns l.pattern
