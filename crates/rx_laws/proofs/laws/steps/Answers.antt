use Rattle.rx_spec.proofs.Prelude.{refl}
use Rattle.rx_laws.proofs.Closures.{end_mark_ends, tells_one, tells_all}
use Rattle.rx_laws.proofs.laws.steps.Goals as goal

pub returns : goal.returns
returns c = record {
  quit_byte = λ b s unit alive quits. rw (alive, quits) refl;
  other = λ b s unit alive quits. rw (alive, quits) refl;
  end_mark = end_mark_ends;
  leftmost_first = tells_one;
  all = tells_all;
}
