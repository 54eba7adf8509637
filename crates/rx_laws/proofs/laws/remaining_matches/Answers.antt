use Rattle.rx_spec.proofs.Prelude.{arith, common_steps}
use Rattle.rx_lemmas.proofs.Overlapping.{overlapping_match, remaining-cons, remaining-nil}
use Rattle.rx_laws.proofs.laws.remaining_matches.Goals as goal

pub returns : goal.returns
returns c = record {
  at_match = grind (arith, common_steps, overlapping_match);
  after_call = λ t direction. remaining-cons t.machine direction;
  after_row = λ t direction. remaining-nil t.machine direction;
}
