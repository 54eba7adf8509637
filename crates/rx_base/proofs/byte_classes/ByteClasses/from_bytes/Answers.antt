use Rattle.rx_spec.proofs.Prelude.{List, ℕ, sym, subst, refl}
use Rattle.rx_base.specs.ByteClasses.{AreClasses}
use Rattle.rx_base.proofs.Classes.{AreClasses-risen}
use Rattle.rx_base.proofs.byte_classes.ByteClasses.from_bytes.Goals as goal

pub invariant_of-result : goal.invariant_of-result
invariant_of-result c =
    subst (λ (classes : List ℕ). AreClasses classes) (sym c.copy_from_slice.ensures.after)
    (AreClasses-risen c.args.bytes.now c.loop-byte.byte c.requires c.if-bytes-ne0.false c.loop-byte.invariant
    c.loop-byte-test.false)

pub returns-clause-exactly : goal.returns-clause-exactly
returns-clause-exactly c = (
  λ _.
      AreClasses-risen c.args.bytes.now c.loop-byte.byte c.requires c.if-bytes-ne0.false c.loop-byte.invariant
      c.loop-byte-test.false,
  λ _. refl,
)
