use Rattle.rx_refine.proofs.Prelude.{rules}
use Rattle.rx_refine.proofs.Sources.{source_below}
use Rattle.rx_refine.proofs.hopcroft.add_sources.Goals as goal

pub overflow_cast-source : goal.overflow_cast-source
overflow_cast-source g c = search (rules, source_below)
