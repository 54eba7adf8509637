use Rattle.rx_sparse_build.proofs.Ordered.{special_rows}
use Rattle.rx_sparse_build.proofs.laws.special_ids_are_rows.Goals as goal

pub returns-clause-ordered : goal.returns-clause-ordered
returns-clause-ordered c = special_rows

pub returns-clause-built : goal.returns-clause-built
returns-clause-built c = λ s nfa l rows is. special_rows l rows is.in_order.ordered
