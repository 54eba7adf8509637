use Rattle.rx_minimize.proofs.Prelude.{table_of}
use Rattle.rx_minimize.proofs.LabelLists.{AreLabelled}
use Rattle.rx_minimize.proofs.labels.labels.Given as goal

abbrev pub invariant-loop-row : goal.invariant-loop-row
invariant-loop-row l = AreLabelled (table_of l.dfa) l.row l.lists l.labels.items
