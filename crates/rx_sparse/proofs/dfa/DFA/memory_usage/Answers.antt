use Rattle.rx_sparse.proofs.RowPlaces.{memory_is}
use Rattle.rx_sparse.proofs.dfa.DFA.memory_usage.Goals as goal

pub returns : goal.returns
returns g c =
    rw (← c.self.view_is, c.bytes.ensures, c.bytes-2.ensures) (memory_is c.self.inside.parts _ _ c.self.invariant)
