use Rattle.rx_base.proofs.LookBits.{NoneOfFirst}
use Rattle.rx_base.proofs.looks.LookSet.contains_word_unicode.Given as goal

abbrev pub invariant-loop-look : goal.invariant-loop-look
invariant-loop-look l = NoneOfFirst l.self l.look-index
