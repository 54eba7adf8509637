use Rattle.rx_script.proofs.ScriptSpelled.{script_spelled}
use Rattle.rx_script.proofs.laws.read_is_spelled.Goals as goal

pub returns : goal.returns
returns c = λ w text s read. script_spelled w text s read
