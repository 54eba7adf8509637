use Rattle.rx_spec.proofs.Prelude.{rules}
use Rattle.rx_stepper.proofs.ByteWords.{byte_there}
use Rattle.rx_stepper.proofs.byte_words.ByteWords.contains.Goals as goal

pub returns : goal.returns
returns c = search (rules, byte_there)
