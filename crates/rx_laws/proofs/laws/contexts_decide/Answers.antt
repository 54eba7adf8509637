use Rattle.rx_spec.proofs.Prelude.{rules}
use Rattle.rx_lemmas.proofs.Facts.{facts_decide, kept_last, kept_cover, start_knows}
use Rattle.rx_laws.proofs.StatesLaws.{kept_read_both}
use Rattle.rx_laws.proofs.laws.contexts_decide.Goals as goal

pub returns : goal.returns
returns c = record {
  decide = facts_decide;
  dropped_of_last = search (rules, kept_last, kept_cover);
  dropped_of_both = search (rules, kept_read_both, kept_cover);
  start = start_knows;
}
