use Rattle.rx_script.proofs.ScriptRead.{script_read}
use Rattle.rx_script.proofs.laws.spelled_is_read.Goals as goal

pub returns : goal.returns
returns c = λ w text s spelled. script_read w text s spelled
