use Rattle.rx_spec.proofs.Prelude.{common_steps, arith, contains}
use Rattle.rx_base.proofs.Classes.{class_by-zero, class_by-next, class_by-le, AreClasses-class_by}
use Rattle.rx_base.proofs.byte_classes.ByteClassSet.byte_classes.Goals as goal

pub loop-byte-init : goal.loop-byte-init
loop-byte-init c = grind (arith, common_steps, class_by-zero)

pub overflow_add-class : goal.overflow_add-class
overflow_add-class c = grind (arith, common_steps, class_by-le)

pub loop-byte-preserved : goal.loop-byte-preserved
loop-byte-preserved c = grind (arith, common_steps, class_by-next)

pub invariant_of-result : goal.invariant_of-result
invariant_of-result c =
    AreClasses-class_by (contains c.self.inside.ends) c.loop-byte.classes
    (λ b h. c.loop-byte.invariant.2 b (omega arith)) c.loop-byte.invariant.0
