use Rattle.rx_spec.proofs.Prelude.{◌≡◌, ◌||◌, map, drop}
use Rattle.rx_spec.specs.declared.Look.{Look}
use Rattle.rx_base.specs.LookSet.{holds_look}
use Rattle.rx_expr.specs.Nfa.{row_of, has_look}
use Rattle.rx_expr.proofs.thompson.nfa.look_set_any.Given as goal

abbrev pub invariant-loop-row : goal.invariant-loop-row
invariant-loop-row l =
    let left = map row_of (drop l.row-index l.rows) in
    (look : Look) → (holds_look l.looks look || has_look left look) ≡ has_look (map row_of l.rows) look
