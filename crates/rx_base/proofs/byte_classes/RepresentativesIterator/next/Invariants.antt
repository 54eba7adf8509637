use Rattle.rx_spec.proofs.Prelude.{◌≡◌, ◌-◌}
use Rattle.rx_base.specs.ByteClasses.{representatives_from}
use Rattle.rx_base.proofs.byte_classes.RepresentativesIterator.next.Given as goal

-- what is left stays the same
abbrev pub invariant-loop-self : goal.invariant-loop-self
invariant-loop-self l =
    representatives_from l.self-inside.classes.now l.self-inside.at
    ≡ representatives_from l.initial.self-inside.classes.now l.initial.self-inside.at

abbrev pub decreases-loop-self : goal.decreases-loop-self
decreases-loop-self l = 256 - l.self-inside.at
