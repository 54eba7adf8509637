use Rattle.rx_spec.proofs.Prelude.{◌≡◌, ℕ, ◌<◌, row_of}
use Rattle.rx_prefilter.proofs.only.leads_only_to.Given as goal

abbrev pub invariant-loop-byte : goal.invariant-loop-byte
invariant-loop-byte g l = (byte : ℕ) → byte < l.byte
    → (g.A.Automaton.table l.dfa).machine.next (row_of (g.A.Automaton.ids l.dfa) l.id) byte
    ≡ row_of (g.A.Automaton.ids l.dfa) l.to
