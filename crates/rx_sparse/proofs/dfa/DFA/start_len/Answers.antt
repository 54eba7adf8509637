use Rattle.rx_sparse.proofs.dfa.DFA.start_len.Goals as goal
use Rattle.rx_sparse.proofs.RowPlaces.{starts_count}
use Rattle.rx_spec.proofs.Prelude.{sym}

pub returns-clause-value : goal.returns-clause-value
returns-clause-value g c =
    rw (← c.self.view_is, c.bytes.ensures) (sym (starts_count c.self.inside.parts _ _ c.self.invariant))
