-- Dense tables whose sparse forms are measured: what holds of a built table, with or without minimizing.
use Rattle.std.specs.Prelude.{ℕ, ◌≡◌, ◌≢◌, ◌<◌, ◌&&◌, Bool, map, Contains}
use Rattle.std.specs.List.{range_with_len}
use Rattle.rx_spec.specs.Builds.{Build, built_modes}
use Rattle.rx_spec.specs.Classes.{class_by, ends_class}
use Rattle.rx_spec.specs.Labels.{AreToldApart, Gives, IsReachedRow}
use Rattle.rx_spec.specs.Power.{IsPower}
use Rattle.rx_spec.specs.Tables.{IsSound}
use Rattle.rx_dense.specs.Layouts.{IsShaped, Layout as Dense, row_count, table_of}
use Rattle.rx_order.specs.RowOrder.{is_skippable}

-- A table is its build's powerset machine, over the build's byte classes, and accelerated exactly where that was asked
-- for. Such is a built table that isn't minimized.
pub record IsMeasured (b : Build) (byte_classes accelerate : Bool) (l : Dense) : Type 0 where
  pub shaped : IsShaped l
  pub sound : IsSound (table_of l)
  pub classes : l.classes ≡ map (class_by (ends_class b.nfa b.quit byte_classes)) (range_with_len 0 256)
  pub power : IsPower (table_of l) b
  pub accelerated : (row : ℕ) → row < row_count l
      → (table_of l).is_accelerated row ≡ (accelerate && is_skippable (table_of l) row)

-- A table gives its build, over the build's byte classes, a search reaches each row behind quit, and any two rows are
-- told apart by a word. Such is a built table that is minimized.
pub record IsBounded (b : Build) (byte_classes : Bool) (l : Dense) : Type 0 where
  pub shaped : IsShaped l
  pub sound : IsSound (table_of l)
  pub classes : l.classes ≡ map (class_by (ends_class b.nfa b.quit byte_classes)) (range_with_len 0 256)
  pub gives : Gives (table_of l) b
  pub reached : (row : ℕ) → 1 < row → row < row_count l
      → IsReachedRow (Contains (built_modes b)) (table_of l) row
  pub apart : (x y : ℕ) → x < row_count l → y < row_count l → x ≢ y → AreToldApart (table_of l) x y
