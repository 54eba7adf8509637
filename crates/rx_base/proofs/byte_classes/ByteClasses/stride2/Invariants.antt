use Rattle.rx_spec.proofs.Prelude.{◌≡◌, ◌-◌, ◌≤◌, least_exponent}
use Rattle.rx_base.proofs.byte_classes.ByteClasses.stride2.Given as goal

-- so far no smaller exponent will do
abbrev pub invariant-loop-exponent : goal.invariant-loop-exponent
invariant-loop-exponent l =
    (l.exponent ≤ 9) × (least_exponent l.len 0 9 ≡ least_exponent l.len l.exponent (9 - l.exponent))

abbrev pub decreases-loop-exponent : goal.decreases-loop-exponent
decreases-loop-exponent l = 9 - l.exponent
