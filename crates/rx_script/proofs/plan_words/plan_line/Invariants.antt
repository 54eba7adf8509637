use Rattle.rx_spec.proofs.Prelude.{◌≡◌}
use Rattle.rx_script.specs.Pieces.{words_left, line_left}
use Rattle.rx_script.specs.Plans.{plan_from, plan_of}
use Rattle.rx_script.proofs.plan_words.plan_line.Given as goal

abbrev pub invariant-words : goal.invariant-words
invariant-words l = plan_from l.choices l.seen (words_left l.rest) ≡ plan_of (words_left l.initial.rest)

abbrev pub decreases-words : goal.decreases-words
decreases-words l = line_left l.rest
