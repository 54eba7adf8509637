use Rattle.rx_spec.proofs.Prelude.{common_steps, ◌<◌, length, length-set, get_or-set_same, get_or-set_other, ◌≢◌}
use Rattle.rx_spec.proofs.Prelude.{below_more, arith}
use Rattle.rx_base.proofs.byte_classes.ByteClasses.singletons.Goals as goal

pub loop-byte-init : goal.loop-byte-init
loop-byte-init c = (c.empty-2.invariant.count, λ b h. absurd (omega arith))

pub loop-byte-preserved : goal.loop-byte-preserved
loop-byte-preserved c =
    let known = c.loop-byte.invariant in
    let within : c.loop-byte.byte < length c.loop-byte.classes = omega arith in (
      rw length-set known.0,
      below_more _ _
          (λ b h. let other : b ≢ c.loop-byte.byte = omega arith in rw get_or-set_other (known.1 b h))
          (rw get_or-set_same),
    )

pub invariant_of-result : goal.invariant_of-result
invariant_of-result c = grind (arith, common_steps)
