use Rattle.rx_spec.proofs.Prelude.{arith, common_steps}
use Rattle.rx_sparse.specs.Layouts as sparse
use Rattle.rx_main.proofs.CheckAnswers.{failed_test_answers}
use Rattle.rx_main.proofs.scan.scan_sparse.Goals as goal

pub returns-in-Ok : goal.returns-in-Ok
returns-in-Ok c = grind (arith, common_steps)

pub returns-in-Err : goal.returns-in-Err
returns-in-Err c = grind (arith, common_steps, failed_test_answers)
