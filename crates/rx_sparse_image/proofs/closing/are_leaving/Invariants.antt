use Rattle.rx_image_parts.proofs.LeavingBytes.{AreMet}
use Rattle.rx_sparse_image.specs.Closing.{leaves}
use Rattle.rx_sparse_image.specs.Reading.{row_of}
use Rattle.rx_sparse_image.proofs.closing.are_leaving.Given as goal

abbrev pub invariant-loop-byte : goal.invariant-loop-byte
invariant-loop-byte l =
    AreMet l.needles (leaves l.image.parts.classes l.at (row_of l.image.parts.order l.row)) l.met l.byte
