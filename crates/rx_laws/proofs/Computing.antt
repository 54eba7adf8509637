-- One name that unfolds every definition that computes, for worked examples.
use Rattle.rx_spec.proofs.Prelude.{min_len, depth, mirror, rounds, up_to, ends, first_of, copies, optional, compile}
use Rattle.rx_spec.proofs.Prelude.{rows_count, reads_nothing, begins_with_edge, patterns_from, start_of_all, nfa_of}
use Rattle.rx_spec.proofs.Prelude.{facts_kept, class_by, least_exponent, reach, fresh, to_first_match, step, run, walk}
use Rattle.rx_spec.proofs.Prelude.{overlapping_walk, skip_splits, iterate_from, runs_after}

unfoldable pub computing : Type 0
unfolding min_len depth mirror rounds up_to ends first_of copies optional compile rows_count reads_nothing
    begins_with_edge patterns_from start_of_all nfa_of facts_kept class_by least_exponent reach fresh to_first_match
    step run walk overlapping_walk skip_splits iterate_from runs_after
computing = Unit {0}
