use Rattle.rx_sparse.proofs.dfa.DFA.state_len.Goals as goal
use Rattle.rx_sparse.proofs.RowPlaces.{length-rows_in}
use Rattle.rx_spec.proofs.Prelude.{sym}

pub returns : goal.returns
returns g c = rw (← c.self.view_is) (sym (length-rows_in c.self.inside.parts.order c.self.inside.parts.state_len _))
