use Rattle.rx_dense.specs.Parts.{layout_of}
use Rattle.rx_dense_image.specs.Closing.{leaves}
use Rattle.rx_image_parts.proofs.LeavingBytes.{AreMet}
use Rattle.rx_dense_image.proofs.closing.are_leaving.Given as goal

abbrev pub invariant-loop-byte : goal.invariant-loop-byte
invariant-loop-byte l = AreMet l.needles (leaves (layout_of l.parts) l.id) l.met l.byte
