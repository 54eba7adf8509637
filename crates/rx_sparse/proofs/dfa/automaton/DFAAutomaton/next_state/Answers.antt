use Rattle.rx_spec.proofs.Prelude.{common_steps, arith}
use Rattle.rx_sparse.proofs.RowPlaces.{next_is_id, next_on_byte}
use Rattle.rx_sparse.proofs.dfa.automaton.DFAAutomaton.next_state.Goals as goal

pub returns-clause-is_id : goal.returns-clause-is_id
returns-clause-is_id g c =
    rw (c.next.ensures, c.state.ensures.value)
    (next_is_id c.args.self.now.layout c.state.ensures.shaped c.args.current c.get-class.result c.requires)

pub returns-clause-row : goal.returns-clause-row
returns-clause-row g c = grind (arith, common_steps, next_on_byte)
