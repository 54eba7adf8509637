use Rattle.rx_meaning.proofs.ServedStarts.{overlapping_of_table_holds}
use Rattle.rx_meaning.proofs.tables.overlapping_of_table.Goals as goal

pub returns : goal.returns
returns c = overlapping_of_table_holds
