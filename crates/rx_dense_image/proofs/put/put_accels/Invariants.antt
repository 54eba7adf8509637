use Rattle.rx_spec.proofs.Prelude.{◌≡◌, ◌+◌, ◌*◌, ◌++◌, length, take, w32, flat_map}
use Rattle.rx_wire.specs.Fields.{field}
use Rattle.rx_dense_image.specs.Marks.{accel_text}
use Rattle.rx_image_parts.specs.Written.{IsPut}
use Rattle.rx_dense_image.proofs.put.put_accels.Given as goal

abbrev pub invariant-loop-i : goal.invariant-loop-i
invariant-loop-i g l = record {
  len : length l.dst ≡ length l.fn.dst;
  place : l.end ≡ l.at + 4 + 8 * l.i;
  put : IsPut
      (field g.E.Endian.order w32 (length (g.L.NeedleLists.lists l.lists))
      ++ flat_map accel_text (take l.i (g.L.NeedleLists.lists l.lists)))
      l.fn.dst l.dst l.at l.end;
}
