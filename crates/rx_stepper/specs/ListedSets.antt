-- Sets of bytes whose columns are listed among those of all rows.
use Rattle.std.specs.Prelude.{ℕ, ◌≡◌, ◌<◌, ◌≤◌, List, length, All, slice_range}
use Rattle.rx_spec.specs.Rows.{Row}
use Rattle.rx_stepper.specs.Columns.{read_by, columns_of, next_of}
use Rattle.rx_stepper.specs.declared.column_span.ColumnSpan.{ColumnSpan}
use Rattle.rx_stepper.specs.declared.listed_sets.ListedSet.{ListedSet}

-- The span holds the columns whose units are in the set.
pub record IsListed (units columns : List ℕ) (set start stop : ℕ) : Type 0 where
  pub order : start ≤ stop
  pub within : stop ≤ length columns
  pub holds : slice_range columns start stop ≡ read_by set units

abbrev pub AreListed : List ℕ → List ℕ → List ListedSet → Type 0
AreListed units columns sets = All (λ (s : ListedSet). IsListed units columns s.set s.start s.stop) sets

-- The span of a row holds the columns whose units it reads, and leads where the row leads.
pub record IsRowSpan (units columns : List ℕ) (row : Row) (s : ColumnSpan) : Type 0 where
  pub order : s.start ≤ s.stop
  pub within : s.stop ≤ length columns
  pub holds : slice_range columns s.start s.stop ≡ columns_of row units
  pub leads : s.next ≡ next_of row

-- Columns of a table were added behind: what spans held before they hold still.
pub record Grown (count : ℕ) (before after : List ℕ) : Type 0 where
  pub longer : length before ≤ length after
  pub same : (start stop : ℕ) → stop ≤ length before → slice_range after start stop ≡ slice_range before start stop
  pub few : All (λ column. column < count) before → All (λ column. column < count) after
