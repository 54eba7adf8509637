use Rattle.rx_prefilter.proofs.Examples as examples
use Rattle.rx_prefilter.proofs.laws.first_places.Goals as goal

pub returns-clause-in_text : goal.returns-clause-in_text
returns-clause-in_text c = examples.in_text

pub returns-clause-behind_the_first : goal.returns-clause-behind_the_first
returns-clause-behind_the_first c = examples.behind_the_first

pub returns-clause-cut_by_span : goal.returns-clause-cut_by_span
returns-clause-cut_by_span c = examples.cut_by_span
