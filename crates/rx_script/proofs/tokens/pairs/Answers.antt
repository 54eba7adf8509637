use Rattle.rx_spec.proofs.Prelude.{common_steps, arith}
use Rattle.rx_script.proofs.Pairs.{pairs_turn, pairs_odd}
use Rattle.rx_script.proofs.tokens.pairs.Goals as goal

pub pairs-preserved : goal.pairs-preserved
pairs-preserved c = grind (arith, common_steps, pairs_turn)

pub returns-then-at-word : goal.returns-then-at-word
returns-then-at-word c = pairs_odd c.pairs.invariant.so_far c.if-at-word.true c.pairs-test.false
