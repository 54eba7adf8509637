use Rattle.rx_spec.proofs.Prelude.{arith}
use Rattle.rx_lemmas.proofs.ClassNumbers.{representatives_rise, representatives_counted, representative_class}
use Rattle.rx_lemmas.proofs.ClassNumbers.{representative_least}
use Rattle.rx_laws.proofs.laws.representatives_of_classes.Goals as goal

pub returns : goal.returns
returns c = record {
  rise = representatives_rise;
  counted = λ ends. omega (arith, representatives_counted ends);
  of_class = representative_class;
  least = representative_least;
}
