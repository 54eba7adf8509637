use Rattle.rx_spec.proofs.Prelude.{rules}
use Rattle.rx_laws.proofs.Closures.{closure_bytes, closure_match, closure_fail, closure_split, closure_standing}
use Rattle.rx_laws.proofs.Closures.{closure_holding, closure_failing}
use Rattle.rx_laws.proofs.laws.closures_by_row.Goals as goal

pub returns : goal.returns
returns c =
    search (
      rules,
      closure_bytes,
      closure_match,
      closure_fail,
      closure_split,
      closure_standing,
      closure_holding,
      closure_failing,
    )
