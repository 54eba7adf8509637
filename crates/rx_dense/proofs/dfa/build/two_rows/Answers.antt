use Rattle.rx_spec.proofs.Prelude.{common_steps, arith}
use Rattle.rx_base.specs.ByteClasses.{alphabet_len}
use Rattle.rx_lemmas.proofs.ClassNumbers.{stride_holds, stride_within}
use Rattle.rx_dense.proofs.Rows.{alphabet_few, stride_few, stride_shifted}
use Rattle.rx_dense.proofs.dfa.build.two_rows.Goals as goal

pub overflow_shl-stride : goal.overflow_shl-stride
overflow_shl-stride c = grind (arith, common_steps, stride_within)

pub prove-unreachable-requires : goal.prove-unreachable-requires
prove-unreachable-requires c =
    let within = stride_within (alphabet_len c.args.classes.now) (omega arith) in
    let few = alphabet_few c.args.classes.now c.alphabet_len-alphabet_len.ensures.classes in
    let holds =
    rw (← c.stride2-stride.ensures) at (stride_holds (alphabet_len c.args.classes.now) (omega arith)) in
    omega (arith, stride_shifted c.stride2-stride.result (omega arith))

pub overflow_mul-result : goal.overflow_mul-result
overflow_mul-result c = grind (arith, common_steps, stride_within, stride_few)

pub returns-clause-value : goal.returns-clause-value
returns-clause-value c = grind (arith, common_steps, stride_within, stride_shifted)
