use Rattle.rx_spec.proofs.Prelude.{rules}
use Rattle.rx_lemmas.proofs.Ends.{ends_repeat_more, ends_repeat_none, ends_repeat_optional}
use Rattle.rx_laws.proofs.EndsLaws.{unbounded_round}
use Rattle.rx_laws.proofs.laws.ends_of_repetitions.Goals as goal

pub returns : goal.returns
returns c = search (rules, ends_repeat_more, ends_repeat_none, ends_repeat_optional, unbounded_round)
