use Rattle.rx_stepper.proofs.Prelude.{matches_of, meaning}
use Rattle.rx_stepper.proofs.GroupLoop.{PlainBetween}
use Rattle.rx_stepper.proofs.steps.ColumnSteps.add_plain.Given as goal

abbrev pub invariant-loop-group : goal.invariant-loop-group
invariant-loop-group l =
    PlainBetween l.initial.self l.self l.columns.groups.used.items
    (matches_of (meaning l.closures.nfa.now).rows l.going) l.group
