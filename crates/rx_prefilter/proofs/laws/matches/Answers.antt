use Rattle.rx_spec.proofs.Prelude.{None, Some, refl, arith}
use Rattle.rx_prefilter.specs.LiteralExamples.{asked}
use Rattle.rx_prefilter.proofs.Examples as examples
use Rattle.rx_prefilter.proofs.laws.matches.Goals as goal

pub returns-clause-finds_it : goal.returns-clause-finds_it
returns-clause-finds_it c forward reverse pattern searches =
    searches (asked 2 5) (examples.is_fit 2 5 (omega arith) (omega arith)) examples.text_bytes refl (Some 3)
    examples.behind_the_first

pub returns-clause-finds_none : goal.returns-clause-finds_none
returns-clause-finds_none c forward reverse pattern searches =
    searches (asked 2 4) (examples.is_fit 2 4 (omega arith) (omega arith)) examples.text_bytes refl None
    examples.cut_by_span
