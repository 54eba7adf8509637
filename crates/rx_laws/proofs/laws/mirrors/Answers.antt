use Rattle.rx_spec.proofs.Prelude.{rules}
use Rattle.rx_lemmas.proofs.Mirrors.{mirror-mirror, min_len-mirror, ends_mirrored}
use Rattle.rx_laws.proofs.laws.mirrors.Goals as goal

pub returns : goal.returns
returns c = search (rules, mirror-mirror, min_len-mirror, ends_mirrored)
