use Rattle.rx_laws.proofs.Dead.{step_dead}
use Rattle.rx_laws.proofs.laws.dead_is_final.Goals as goal

pub returns-clause-step : goal.returns-clause-step
returns-clause-step c = step_dead
