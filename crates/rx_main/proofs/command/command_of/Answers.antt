use Rattle.rx_spec.proofs.Prelude.{arith, common_steps}
use Rattle.rx_main.proofs.Counts.{five_words, four_words, one_word, three_words, two_words}
use Rattle.rx_main.proofs.command.command_of.Goals as goal

pub returns-in-1 : goal.returns-in-1
returns-in-1 c = grind (arith, common_steps, one_word)

pub returns-in-2 : goal.returns-in-2
returns-in-2 c = grind (arith, common_steps, two_words)

pub returns-in-3 : goal.returns-in-3
returns-in-3 c = grind (arith, common_steps, three_words)

pub returns-in-5 : goal.returns-in-5
returns-in-5 c = grind (arith, common_steps, five_words)

pub returns-in-4 : goal.returns-in-4
returns-in-4 c = grind (arith, common_steps, four_words)
