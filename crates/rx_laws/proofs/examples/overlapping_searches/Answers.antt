use Rattle.rx_spec.proofs.Prelude.{refl}
use Rattle.rx_laws.proofs.Computing.{computing}
use Rattle.rx_laws.proofs.OverlappingExamples.{refused_is_no_quit}
use Rattle.rx_laws.proofs.examples.overlapping_searches.Goals as goal

pub returns : goal.returns
unfolding computing
returns c = record {
  both = refl;
  together = refl;
  refused_or_quits = (refl, refl);
  refused_is_no_quit = refused_is_no_quit;
}
