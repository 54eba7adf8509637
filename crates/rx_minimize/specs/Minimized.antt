-- What minimizing makes of a table (`IsMinimized`): it reports the same on every word, and for any two rows some word
-- makes them report differently.
use Rattle.std.specs.Prelude.{ℕ, ◌≡◌, ◌≢◌, ◌<◌, ◌&&◌, true, List, Contains}
use Rattle.rx_spec.specs.Labels.{SameLabels, AreToldApart, IsReachedRow}
use Rattle.rx_spec.specs.Queries.{Anchored}
use Rattle.rx_spec.specs.Tables.{Table}
use Rattle.rx_dense.specs.Layouts.{Layout, table_of, row_count}
use Rattle.rx_order.specs.RowOrder.{IsInOrder, IsPlain, AreJoined, is_marked, is_start_row}

abbrev pub AnyMode : Anchored → Type 0
AnyMode mode = Unit {0}

-- each row but dead and quit is reached from a start of these modes
abbrev pub AreReachedRows : List Anchored → Table → Type 0
AreReachedRows modes t = (row : ℕ) → 1 < row → row < t.size → IsReachedRow (Contains modes) t row

-- Every word has the label from each start that it had, and a word tells any two rows apart. Where all rows were
-- reached, all are. The table is sound and its rows in order, none accelerated, and starts are marked where they were;
-- of the rest nothing is changed.
pub record IsMinimized (old new : Layout) : Type 0 where
  pub same : SameLabels AnyMode (table_of new).machine (table_of old).machine
  pub apart : (x y : ℕ) → x < row_count new → y < row_count new → x ≢ y → AreToldApart (table_of new) x y
  pub reached : (modes : List Anchored) → AreReachedRows modes (table_of old) → AreReachedRows modes (table_of new)
  pub in_order : IsInOrder new
  pub plain : IsPlain new
  pub joined : AreJoined new
  pub marked : (row : ℕ) → row < row_count new
      → (table_of new).is_start row ≡ (is_marked old && is_start_row new row)
  -- where a search starts, one did before
  pub starts : (row : ℕ) → row < row_count new → is_start_row new row ≡ true
      → (other : ℕ) × (other < row_count old) × (is_start_row old other ≡ true)
  pub rest : new ≡ record old {
    words = new.words;
    starts = new.starts;
    slices = new.slices;
    pattern_ids = new.pattern_ids;
    special = new.special;
  }
