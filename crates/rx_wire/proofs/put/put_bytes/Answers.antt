use Rattle.rx_spec.proofs.Prelude.{arith, common_steps}
use Rattle.rx_wire.proofs.Behind.{put_between, stands_more}
use Rattle.rx_wire.proofs.put.put_bytes.Goals as goal

pub returns-clause-stands : goal.returns-clause-stands
returns-clause-stands c = grind (arith, common_steps, stands_more, put_between)
