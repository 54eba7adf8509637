use Rattle.rx_main.proofs.Numerals.{mode_by_word}
use Rattle.rx_main.proofs.command.mode_of.Goals as goal

pub returns : goal.returns
returns c = mode_by_word c.args.word.now c.mode.result c.mode.ensures
