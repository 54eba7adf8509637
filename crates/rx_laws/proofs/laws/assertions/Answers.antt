use Rattle.rx_lemmas.proofs.Mirrors.{look_mirrored}
use Rattle.rx_laws.proofs.laws.assertions.Goals as goal

pub returns-clause-in_reverse : goal.returns-clause-in_reverse
returns-clause-in_reverse c = look_mirrored
