use Rattle.rx_spec.proofs.Prelude.{refl, overlapping_walk}
use Rattle.rx_stream.proofs.examples.ends.Goals as goal

pub returns-clause-remaining : goal.returns-clause-remaining
unfolding overlapping_walk
returns-clause-remaining c = refl

pub returns-clause-now : goal.returns-clause-now
unfolding overlapping_walk
returns-clause-now c = refl
