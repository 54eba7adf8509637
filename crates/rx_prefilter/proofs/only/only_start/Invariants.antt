use Rattle.rx_spec.proofs.Prelude.{ℕ, ◌<◌, Some, row_of}
use Rattle.rx_base.specs.Search.{mode_of}
use Rattle.rx_prefilter.specs.OnlyLiterals.{StartsBeside}
use Rattle.rx_prefilter.proofs.only.only_start.Given as goal

abbrev pub invariant-loop-byte : goal.invariant-loop-byte
invariant-loop-byte g l = (byte : ℕ) → byte < l.byte
    → StartsBeside (g.A.Automaton.table l.dfa) (mode_of l.mode) (Some byte) (row_of (g.A.Automaton.ids l.dfa) l.start)
