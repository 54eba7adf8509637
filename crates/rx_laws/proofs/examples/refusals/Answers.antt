use Rattle.rx_spec.proofs.Prelude.{refl, arith}
use Rattle.rx_laws.proofs.Computing.{computing}
use Rattle.rx_laws.proofs.examples.refusals.Goals as goal

pub returns : goal.returns
unfolding computing
returns c = record {
  fit = record { within = omega arith; ordered = omega arith };
  unfit = λ fit. omega arith;
  done = refl;
  mode = refl;
  past_last = refl;
  pattern = refl;
  no_pattern_starts = refl;
}
