use Rattle.rx_spec.proofs.Prelude.{◌≡◌, map, drop, facts_kept, either_of}
use Rattle.rx_expr.specs.Nfa.{row_of}
use Rattle.rx_expr.proofs.thompson.nfa.asked_facts.Given as goal

abbrev pub invariant-loop-row : goal.invariant-loop-row
invariant-loop-row l =
    let left = facts_kept (map row_of (drop l.row-index l.rows)) in
    either_of l.asked left ≡ facts_kept (map row_of l.rows)
