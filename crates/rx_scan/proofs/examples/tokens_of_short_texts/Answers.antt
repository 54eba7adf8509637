use Rattle.rx_spec.proofs.Prelude.{refl, overlapping_walk}
use Rattle.rx_scan.specs.Tokens.{line_feeds, line_start, longest, tokens_from}
use Rattle.rx_scan.proofs.examples.tokens_of_short_texts.Goals as goal

pub returns-clause-longest : goal.returns-clause-longest
unfolding overlapping_walk line_feeds line_start longest tokens_from
returns-clause-longest c = refl

pub returns-clause-stuck : goal.returns-clause-stuck
unfolding overlapping_walk line_feeds line_start longest tokens_from
returns-clause-stuck c = refl

pub returns-clause-nothing : goal.returns-clause-nothing
unfolding overlapping_walk line_feeds line_start longest tokens_from
returns-clause-nothing c = refl

pub returns-clause-quit : goal.returns-clause-quit
unfolding overlapping_walk line_feeds line_start longest tokens_from
returns-clause-quit c = refl
