use Rattle.rx_scan.proofs.TokensAreLongest as tokens
use Rattle.rx_scan.proofs.laws.tokens_are_longest.Goals as goal

pub returns : goal.returns
returns c = tokens.tokens_are_longest
