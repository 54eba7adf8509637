use Rattle.rx_dense.proofs.Shaped.{shaped_special}
use Rattle.rx_dense.proofs.dfa.build.DFA+Vec+u32.set_special.Goals as goal

pub invariant_of-self : goal.invariant_of-self
invariant_of-self c = shaped_special _ c.args.special c.self.invariant
