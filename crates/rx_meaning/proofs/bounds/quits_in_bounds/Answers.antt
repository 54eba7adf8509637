use Rattle.rx_spec.proofs.Prelude.{rules}
use Rattle.rx_meaning.proofs.SplitBounds.{half_unsplit_quits, overlapping_unsplit_quits}
use Rattle.rx_meaning.proofs.JoinBounds.{join_quits}
use Rattle.rx_meaning.proofs.TableBounds.{half_quits, overlapping_quits}
use Rattle.rx_meaning.proofs.bounds.quits_in_bounds.Goals as goal

pub returns : goal.returns
returns c = search (rules, half_quits, half_unsplit_quits, overlapping_quits, overlapping_unsplit_quits, join_quits)
