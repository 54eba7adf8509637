use Rattle.rx_sparse_image.proofs.ShapedImages.{shaped}
use Rattle.rx_sparse_image.proofs.SoundImages.{sound}
use Rattle.rx_sparse_image.proofs.laws.what_can_be_read_is_sound.Goals as goal

pub returns-clause-shaped : goal.returns-clause-shaped
returns-clause-shaped c = λ l whole. shaped l whole

pub returns-clause-sound : goal.returns-clause-sound
returns-clause-sound c = λ l whole. sound l whole
