-- Tables that are complete and can be written.
use Rattle.std.specs.Prelude.{◌≡◌, ◌^◌, ◌<◌, length}
use Rattle.rx_dense.specs.Builder.{with_universal_starts}
use Rattle.rx_dense.specs.Layouts.{IsShaped, Layout}
use Rattle.rx_order.specs.RowOrder.{AreJoined, IsInOrder, accel_count}

-- A sound table in order: its lists of patterns are those of its match rows, one behind another; it has needles for
-- each accelerated row and no others; its universal starts are what its start entries have in common; and no bit of its
-- quit set is past the last byte.
pub record IsFinished (l : Layout) : Type 0 where
  pub shaped : IsShaped l
  pub in_order : IsInOrder l
  pub joined : AreJoined l
  pub counted : length l.accels ≡ accel_count l
  pub universal : l ≡ with_universal_starts l
  pub quit : l.quit < 2 ^ 256
