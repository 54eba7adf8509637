use Rattle.rx_spec.proofs.Prelude.{◌∙◌}
use Rattle.rx_stepper.proofs.Prelude.{meaning}
use Rattle.rx_stepper.proofs.ThinLists.{no_looks}
use Rattle.rx_stepper.proofs.closures.Closures.has_look.Goals as goal

pub returns-else-self : goal.returns-else-self
returns-else-self c =
    let self = c.args.self.now in
    c.if-self.false ∙ no_looks (meaning self.nfa.now).rows c.args.rows.now (self.looks c.if-self.false)
