use Rattle.rx_spec.proofs.Prelude.{◌≡◌, map, range_with_len}
use Rattle.rx_dense_image.specs.Marks.{needles_in}
use Rattle.rx_dense_image.proofs.marks.accels_of.Given as goal

abbrev pub invariant-loop-i : goal.invariant-loop-i
invariant-loop-i l = l.accels ≡ map (needles_in l.bytes) (range_with_len 0 l.i)
