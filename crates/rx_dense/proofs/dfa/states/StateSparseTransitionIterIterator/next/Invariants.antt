use Rattle.rx_spec.proofs.Prelude.{◌≡◌, ◌-◌, ◌+◌, ◌<◌, length, true}
use Rattle.rx_dense.specs.States.{AreNextIds, begins_range, sparse_transitions_from}
use Rattle.rx_dense.proofs.dfa.states.StateSparseTransitionIterIterator.next.Given as goal

-- what is left stays the same, and a range begins where reading goes on
abbrev pub invariant-loop-self : goal.invariant-loop-self
invariant-loop-self l = record {
  ids : AreNextIds l.self-inside.transitions.now;
  eoi : l.eoi ≡ length l.self-inside.transitions.now - 1;
  begins : l.self-inside.column + 1 < length l.self-inside.transitions.now
      → begins_range l.self-inside.transitions.now l.self-inside.column ≡ true;
  left : sparse_transitions_from l.self-inside.transitions.now l.self-inside.column
      ≡ sparse_transitions_from l.initial.self-inside.transitions.now l.initial.self-inside.column;
}

abbrev pub decreases-loop-self : goal.decreases-loop-self
decreases-loop-self l = l.eoi - l.self-inside.column
