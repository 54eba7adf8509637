use Rattle.rx_spec.proofs.Prelude.{ℕ, ◌<◌}
use Rattle.rx_prefilter.specs.Literals.{rows_at}
use Rattle.rx_prefilter.proofs.RowsOf.{IsRowOf}
use Rattle.rx_prefilter.proofs.literal.is_literal.Given as goal

abbrev pub invariant-loop-k : goal.invariant-loop-k
invariant-loop-k g l = (k : ℕ) → k < l.k
    → IsRowOf (g.A.Automaton.table l.dfa) l.literal (rows_at (g.A.Automaton.ids l.dfa) l.rows) k
