use Rattle.rx_script.proofs.Outcomes.{is_spelled, is_read}
use Rattle.rx_script.proofs.script.read_script.Goals as goal

pub returns-clause-found : goal.returns-clause-found
returns-clause-found c = is_spelled c.args.with_input c.args.text.now c.read_whole.result c.read_whole.ensures

pub returns-clause-only : goal.returns-clause-only
returns-clause-only c =
    λ s spelled. is_read c.args.with_input c.args.text.now c.read_whole.result s spelled c.read_whole.ensures
