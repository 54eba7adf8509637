use Rattle.rx_spec.proofs.Prelude.{arith, [], common_steps}
use Rattle.rx_search.proofs.Cursors.{held_by}
use Rattle.rx_stream.proofs.New.{is_new}
use Rattle.rx_stream.proofs.searcher.StreamSearcher.new.Goals as goal

pub returns-in-Ok : goal.returns-in-Ok
returns-in-Ok g c = grind (arith, common_steps, held_by, is_new)
