use Rattle.rx_spec.proofs.Prelude.{rules}
use Rattle.rx_laws.proofs.Nowhere.{nowhere_is_table, nowhere_gives, nowhere_is_least}
use Rattle.rx_laws.proofs.examples.smallest_table.Goals as goal

pub returns : goal.returns
returns c = search (rules, nowhere_is_table, nowhere_gives, nowhere_is_least)
