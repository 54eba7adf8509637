use Rattle.rx_spec.proofs.Prelude.{arith, common_steps}
use Rattle.rx_search.proofs.overlapping.find_overlapping_unsplit.Goals as goal

pub returns-in-Err-clause-call : goal.returns-in-Err-clause-call
returns-in-Err-clause-call g c = grind (arith, common_steps)

pub returns-in-None-clause-call : goal.returns-in-None-clause-call
returns-in-None-clause-call g c = grind (arith, common_steps)

pub returns-then-not-skips_splits-clause-call : goal.returns-then-not-skips_splits-clause-call
returns-then-not-skips_splits-clause-call g c = grind (arith, common_steps)

pub returns-then-is_char_boundary-clause-call : goal.returns-then-is_char_boundary-clause-call
returns-then-is_char_boundary-clause-call g c = grind (arith, common_steps)

pub returns-then-is_anchored-clause-call : goal.returns-then-is_anchored-clause-call
returns-then-is_anchored-clause-call g c = grind (arith, common_steps)

pub splits-preserved : goal.splits-preserved
splits-preserved g c = grind (arith, common_steps)

pub splits-smaller : goal.splits-smaller
splits-smaller g c = grind (arith, common_steps)
