use Rattle.rx_spec.proofs.Prelude.{arith, common_steps}
use Rattle.rx_sparse.proofs.RowPlaces.{id_within, row_is_at, row_there_at}
use Rattle.rx_sparse.proofs.dfa.DFA.state.Goals as goal

pub split_at-requires : goal.split_at-requires
split_at-requires g c = grind (arith, common_steps, id_within)

pub at-requires : goal.at-requires
at-requires g c = grind (arith, common_steps, row_there_at)

pub returns-clause-value : goal.returns-clause-value
returns-clause-value g c = grind (arith, common_steps, row_is_at)
