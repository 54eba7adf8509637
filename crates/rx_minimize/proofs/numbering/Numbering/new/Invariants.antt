use Rattle.rx_minimize.proofs.Renumbered.{AreNamed}
use Rattle.rx_minimize.proofs.numbering.Numbering.new.Given as goal

abbrev pub invariant-loop-row : goal.invariant-loop-row
invariant-loop-row l = AreNamed l.blocks l.row l.names.items l.numbers.items l.firsts.items
