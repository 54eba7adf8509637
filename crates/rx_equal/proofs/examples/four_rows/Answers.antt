use Rattle.rx_equal.proofs.FourRows.{four_rows_sound}
use Rattle.rx_equal.proofs.examples.four_rows.Goals as goal

pub returns : goal.returns
returns c = four_rows_sound
