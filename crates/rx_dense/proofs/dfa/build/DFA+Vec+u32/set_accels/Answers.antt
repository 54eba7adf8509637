use Rattle.rx_spec.proofs.Prelude.{arith}
use Rattle.rx_dense.specs.Accels.{accel_lists}
use Rattle.rx_dense.proofs.AccelLists.{accel_lists_len}
use Rattle.rx_dense.proofs.Shaped.{shaped_accels}
use Rattle.rx_dense.proofs.dfa.build.DFA+Vec+u32.set_accels.Goals as goal

pub invariant_of-self : goal.invariant_of-self
invariant_of-self c =
    let words = c.into_words.result.items in
    shaped_accels _ (accel_lists words) (omega (arith, accel_lists_len words)) c.self.invariant
