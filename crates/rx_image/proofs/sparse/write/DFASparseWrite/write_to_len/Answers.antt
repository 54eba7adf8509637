use Rattle.rx_spec.proofs.Prelude.{sym}
use Rattle.rx_image.proofs.sparse.write.DFASparseWrite.write_to_len.Goals as goal

pub returns : goal.returns
returns g c = λ order. sym (c.image_len.ensures.text order)
