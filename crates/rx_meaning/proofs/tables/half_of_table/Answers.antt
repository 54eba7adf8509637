use Rattle.rx_meaning.proofs.ServedStarts.{half_of_table_holds}
use Rattle.rx_meaning.proofs.tables.half_of_table.Goals as goal

pub returns : goal.returns
returns c = half_of_table_holds
