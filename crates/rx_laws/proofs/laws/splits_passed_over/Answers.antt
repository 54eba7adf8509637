use Rattle.rx_spec.proofs.Prelude.{rules}
use Rattle.rx_lemmas.proofs.Splits.{splits_uncut, splits_again, unsplit_again}
use Rattle.rx_laws.proofs.laws.splits_passed_over.Goals as goal

pub returns : goal.returns
returns c = search (rules, splits_uncut, splits_again, unsplit_again)
