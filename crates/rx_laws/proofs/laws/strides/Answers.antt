use Rattle.rx_spec.proofs.Prelude.{arith}
use Rattle.rx_spec.specs.Classes.{alphabet_by}
use Rattle.rx_lemmas.proofs.ClassNumbers.{alphabet_within, stride_holds, stride_least, stride_within}
use Rattle.rx_laws.proofs.laws.strides.Goals as goal

pub returns : goal.returns
returns c = record {
  holds = λ ends. stride_holds (alphabet_by ends) (omega (arith, (alphabet_within ends).1));
  least = λ ends k. stride_least (alphabet_by ends) k;
  within = λ ends. stride_within (alphabet_by ends) (alphabet_within ends).0;
}
