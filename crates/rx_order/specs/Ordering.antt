-- What `shuffle` and `accelerate` make of a table (`IsShuffled`, `IsAccelerated`).
use Rattle.std.specs.Prelude.{ℕ, ◌≡◌, ◌<◌, List}
use Rattle.std.specs.Prelude.{length}
use Rattle.std.specs.Prelude.{slice_index}
use Rattle.rx_dense.specs.Layouts.{Layout, table_of, row_count}
use Rattle.rx_dense.specs.MatchRows.{Matches, label_by}
use Rattle.rx_order.specs.RowOrder.{IsOrdered, AreJoined, IsInOrder, accel_count, is_marked, is_start_row, is_skippable}
use Rattle.rx_order.specs.Permuted.{IsPermuted}

-- Rows in their order, match rows with the patterns that were given, every start row marked, and nothing else changed.
pub record IsShuffled (old : Layout) (matches : Matches) (new : Layout) : Type 0 where
  pub numbers : List ℕ
  pub permuted : IsPermuted numbers (table_of old) (table_of new)
  pub labels : (row : ℕ) → row < row_count old
      → (table_of new).machine.label (slice_index numbers row) ≡ label_by old matches row
  pub ordered : IsOrdered new
  pub marked : (row : ℕ) → row < row_count new → (table_of new).is_start row ≡ is_start_row new row
  pub unaccelerated : (new.special.min_accel ≡ 0) × (new.special.max_accel ≡ 0)
  pub joined : AreJoined new
  pub rest : new ≡ record old {
    words = new.words;
    starts = new.starts;
    slices = new.slices;
    pattern_ids = new.pattern_ids;
    special = new.special;
  }

-- Exactly the rows that may be skipped from are accelerated, and there are needles for each of them and no others; the
-- rows lie in their order, tell what they told, and are marked as they were.
pub record IsAccelerated (old new : Layout) : Type 0 where
  pub numbers : List ℕ
  pub permuted : IsPermuted numbers (table_of old) (table_of new)
  pub labels : (row : ℕ) → row < row_count old
      → (table_of new).machine.label (slice_index numbers row) ≡ (table_of old).machine.label row
  pub accelerated : (row : ℕ) → row < row_count new
      → (table_of new).is_accelerated row ≡ is_skippable (table_of new) row
  pub counted : length new.accels ≡ accel_count new
  pub starts : (row : ℕ) → row < row_count old
      → is_start_row new (slice_index numbers row) ≡ is_start_row old row
  pub marked : is_marked new ≡ is_marked old
  pub in_order : IsInOrder new
  pub joined : AreJoined new
  pub rest : new ≡ record old {
    words = new.words;
    starts = new.starts;
    slices = new.slices;
    pattern_ids = new.pattern_ids;
    special = new.special;
    accels = new.accels;
  }
