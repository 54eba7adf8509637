use Rattle.rx_spec.proofs.Prelude.{◌-◌, ◌+◌, ◌≤◌, length}
use Rattle.rx_script.proofs.Pairs.{ReadPairs}
use Rattle.rx_script.proofs.tokens.pairs.Given as goal

abbrev pub invariant-pairs : goal.invariant-pairs
invariant-pairs l = record { within : l.at ≤ length l.word + 1; so_far : ReadPairs l.word l.bytes.items l.at }

abbrev pub decreases-pairs : goal.decreases-pairs
decreases-pairs l = length l.word + 1 - l.at
