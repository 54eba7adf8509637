use Rattle.rx_spec.proofs.Prelude.{refl, least_exponent}
use Rattle.rx_dense.proofs.examples.three_rows.Goals as goal

pub returns : goal.returns
unfolding least_exponent
returns c = record { all = refl; one = refl; first = refl; kept = refl }
