use Rattle.rx_main.proofs.SearchFinds.{search_finds}
use Rattle.rx_main.proofs.laws.search_finds.Goals as goal

pub returns : goal.returns
returns c = search_finds
