use Rattle.rx_spec.proofs.Prelude.{arith, common_steps}
use Rattle.rx_dense.proofs.States.{first_few, first_shifted, row_within, row-next_ids}
use Rattle.rx_dense.proofs.Rows.{part_is}
use Rattle.rx_dense.proofs.dfa.DFA.state.Goals as goal

pub must-requires : goal.must-requires
must-requires g c = grind (arith, common_steps, first_few)

pub slice_bounds-result-end : goal.slice_bounds-result-end
slice_bounds-result-end g c = grind (arith, common_steps, row_within)

pub invariant_of-result : goal.invariant_of-result
invariant_of-result g c = grind (arith, common_steps, first_shifted, part_is, row-next_ids)
