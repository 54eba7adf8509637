use Rattle.rx_spec.proofs.Prelude.{arith, common_steps}
use Rattle.rx_image_parts.proofs.ClassTests.{classes_of, classes_pass}
use Rattle.rx_image_parts.proofs.classes.classes_of.Goals as goal

pub returns-clause-exactly : goal.returns-clause-exactly
returns-clause-exactly c = grind (arith, common_steps, classes_pass, classes_of)
