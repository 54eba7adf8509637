use Rattle.rx_spec.proofs.Prelude.{arith}
use Rattle.rx_lemmas.proofs.ClassNumbers.{column_below, column_used}
use Rattle.rx_laws.proofs.laws.columns.Goals as goal

pub returns : goal.returns
returns c = record {
  below = column_below;
  used = column_used;
  last = λ ends. omega arith;
}
