use Rattle.rx_spec.proofs.Prelude.{arith, common_steps}
use Rattle.rx_sparse.proofs.rows.patterns.Goals as goal
use Rattle.rx_dense.proofs.RowKinds.{match_patterns, match_kind}

pub returns-then-is_match_state : goal.returns-then-is_match_state
returns-then-is_match_state g c = grind (arith, common_steps, match_patterns, match_kind)

pub returns-else-is_match_state : goal.returns-else-is_match_state
returns-else-is_match_state g c = grind (arith, common_steps, match_kind)
