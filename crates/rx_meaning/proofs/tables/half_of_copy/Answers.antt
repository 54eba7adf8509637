use Rattle.rx_spec.proofs.Prelude.{rules}
use Rattle.rx_meaning.proofs.ServedSearches.{half_unsplit_of_copy, overlapping_unsplit_of_copy}
use Rattle.rx_meaning.proofs.ServedStarts.{half_of_copy_holds, overlapping_of_copy_holds}
use Rattle.rx_meaning.proofs.tables.half_of_copy.Goals as goal

pub returns : goal.returns
returns c =
    search (rules, half_of_copy_holds, overlapping_of_copy_holds, half_unsplit_of_copy, overlapping_unsplit_of_copy)
