use Rattle.rx_spec.proofs.Prelude.{refl, arith}
use Rattle.rx_laws.proofs.Computing.{computing}
use Rattle.rx_laws.proofs.examples.expressions.Goals as goal

pub returns : goal.returns
unfolding computing
returns c = record {
  numbers = (refl, refl, refl);
  mirror = refl;
  ends = refl;
  in_reverse = refl;
  safe_loop = (omega arith, tt);
  unsafe_loop = λ safe. omega arith;
  at_end = refl;
}
