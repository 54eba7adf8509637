use Rattle.rx_spec.proofs.Prelude.{ℕ, ◌<◌}
use Rattle.rx_prefilter.specs.Literals.{LeadsOn, rows_at}
use Rattle.rx_prefilter.proofs.literal.leads_on.Given as goal

abbrev pub invariant-loop-byte : goal.invariant-loop-byte
invariant-loop-byte g l = (byte : ℕ) → byte < l.byte
    → LeadsOn (g.A.Automaton.table l.dfa) l.literal (rows_at (g.A.Automaton.ids l.dfa) l.rows) l.k byte
