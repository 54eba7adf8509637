use Rattle.rx_refine.proofs.Prelude.{rules}
use Rattle.rx_refine.proofs.hopcroft.by_label.Goals as goal

pub returns : goal.returns
returns c = search rules
