use Rattle.rx_sparse.proofs.RowPlaces.{eoi_is_id}
use Rattle.rx_sparse.proofs.dfa.automaton.DFAAutomaton.next_eoi_state.Goals as goal

pub returns-clause-is_id : goal.returns-clause-is_id
returns-clause-is_id g c =
    rw (c.next_eoi.ensures, c.state.ensures.value)
    (eoi_is_id c.args.self.now.layout c.state.ensures.shaped c.args.current c.requires)
