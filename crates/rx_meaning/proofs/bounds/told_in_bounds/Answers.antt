use Rattle.rx_spec.proofs.Prelude.{rules}
use Rattle.rx_meaning.proofs.SplitBounds.{half_unsplit_in_bounds, overlapping_unsplit_in_bounds}
use Rattle.rx_meaning.proofs.JoinBounds.{join_in_bounds}
use Rattle.rx_meaning.proofs.TableBounds.{half_in_bounds, overlapping_in_bounds}
use Rattle.rx_meaning.proofs.bounds.told_in_bounds.Goals as goal

pub returns : goal.returns
returns c =
    search (
      rules,
      half_in_bounds,
      half_unsplit_in_bounds,
      overlapping_in_bounds,
      overlapping_unsplit_in_bounds,
      join_in_bounds,
    )
