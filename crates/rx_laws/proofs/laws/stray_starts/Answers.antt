use Rattle.rx_spec.proofs.Prelude.{refl, arith}
use Rattle.rx_laws.proofs.laws.stray_starts.Goals as goal

pub returns : goal.returns
returns c = record {
  unanchored = λ t is. omega (arith, is.universal_unanchored t.size refl);
  anchored = λ t is. omega (arith, is.universal_anchored t.size refl);
}
