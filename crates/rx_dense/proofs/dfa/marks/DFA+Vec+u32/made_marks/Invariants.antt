use Rattle.rx_spec.proofs.Prelude.{◌≡◌, length}
use Rattle.rx_dense.proofs.Marks.{HasMarks}
use Rattle.rx_dense.proofs.dfa.marks.DFA+Vec+u32.made_marks.Given as goal

abbrev pub invariant-loop-place : goal.invariant-loop-place
invariant-loop-place l = record {
  count : length l.marks.items ≡ l.place;
  marked : HasMarks l.self l.marks.items;
}
