use Rattle.rx_spec.proofs.Prelude.{rules}
use Rattle.rx_meaning.proofs.PowerTables.{power_gives, power_is_reached}
use Rattle.rx_meaning.proofs.least.power_table.Goals as goal

pub returns : goal.returns
returns c = search (rules, power_gives, power_is_reached)
