use Rattle.rx_spec.proofs.Prelude.{arith, common_steps}
use Rattle.rx_sparse.proofs.RowPlaces.{zero_is_id}
use Rattle.rx_sparse.proofs.dfa.DFA.start.Goals as goal
use Rattle.rx_dense.proofs.Rows.{place_within}

pub returns-then-first-start_len-clause-is_id : goal.returns-then-first-start_len-clause-is_id
returns-then-first-start_len-clause-is_id g c = zero_is_id c.args.self.now.layout c.start_len.ensures.shaped

pub start_at-requires : goal.start_at-requires
start_at-requires g c = grind (arith, common_steps, place_within)

pub returns-clause-is_id : goal.returns-clause-is_id
returns-clause-is_id g c =
    rw (c.start_at.ensures, c.mode_place-first.ensures.value, c.context_number.ensures.value)
    (c.start_len.ensures.shaped.starts.start_ids _
    (grind (arith, common_steps, place_within, c.args.self.now.layout)))
