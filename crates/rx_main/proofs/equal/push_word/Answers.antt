use Rattle.rx_spec.proofs.Prelude.{common_steps, append_assoc, arith}
use Rattle.rx_main.proofs.WordTexts.{word_taken}
use Rattle.rx_main.proofs.equal.push_word.Goals as goal

pub units-preserved : goal.units-preserved
units-preserved c = grind (arith, common_steps, append_assoc, word_taken)
