use Rattle.rx_spec.proofs.Prelude.{arith, ◌-◌, common_steps, length-map-range_with_len}
use Rattle.rx_sparse.proofs.state.State.range_len.Goals as goal

pub returns : goal.returns
returns c = grind (arith, common_steps, length-map-range_with_len)
