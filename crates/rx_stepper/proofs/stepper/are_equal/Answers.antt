use Rattle.rx_spec.proofs.Prelude.{common_steps, arith}
use Rattle.std.proofs.lemmas.Grind.{same_number_lists}
use Rattle.rx_stepper.proofs.stepper.are_equal.Goals as goal

pub returns : goal.returns
returns c = grind (arith, common_steps, same_number_lists)
