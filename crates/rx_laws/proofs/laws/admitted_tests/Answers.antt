use Rattle.rx_laws.proofs.FoundLaws.{admitted_tests}
use Rattle.rx_laws.proofs.laws.admitted_tests.Goals as goal

pub returns : goal.returns
returns c = admitted_tests
