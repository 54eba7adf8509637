-- The table that determinizing makes (`IsDeterminized`).
use Rattle.std.specs.Prelude.{ℕ, ◌≡◌, ◌<◌}
use Rattle.rx_spec.specs.Builds.{Build}
use Rattle.rx_spec.specs.Power.{IsPower}
use Rattle.rx_dense.specs.Layouts.{Layout, row_count, table_of}
use Rattle.rx_order.specs.RowOrder.{AreJoined, IsInOrder, IsPlain, is_start_row}

-- The table is the build's powerset machine, sound and with its rows in order, every start row marked and none
-- accelerated; of the rest nothing is changed.
pub record IsDeterminized (b : Build) (old new : Layout) : Type 0 where
  pub power : IsPower (table_of new) b
  pub in_order : IsInOrder new
  pub plain : IsPlain new
  pub marked : (row : ℕ) → row < row_count new → (table_of new).is_start row ≡ is_start_row new row
  pub joined : AreJoined new
  pub rest : new ≡ record old {
    words = new.words;
    starts = new.starts;
    slices = new.slices;
    pattern_ids = new.pattern_ids;
    special = new.special;
  }
