use Rattle.rx_dense_image.proofs.SoundImages.{sound_result}
use Rattle.rx_image.proofs.dense.read.DFAVecU32DenseRead.from_bytes.Goals as goal

pub returns-clause-sound : goal.returns-clause-sound
returns-clause-sound c = sound_result c.read_table.result c.read_table.ensures.whole
