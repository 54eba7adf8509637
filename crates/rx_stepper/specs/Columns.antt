-- The columns that rows read, and groups of columns: no assertion distinguishes the units of a group.
use Rattle.std.specs.Prelude.{ℕ, ◌≡◌, ◌<◌, ◌≤◌, ◌==◌, Bool, true, false, if◌then◌else◌, Option, Some, None, List, []}
use Rattle.std.specs.Prelude.{◌∷◌, length, filter, All, slice_get, slice_index, slice_index_or, slice_range}
use Rattle.std.specs.List.{flat_map, range_with_len}
use Rattle.rx_spec.specs.Bytes.{contains}
use Rattle.rx_spec.specs.Contexts.{Facts, both, facts_kept, unit_facts}
use Rattle.rx_spec.specs.Nfas.{Nfa}
use Rattle.rx_spec.specs.Rows.{Row}
use Rattle.rx_spec.specs.States.{row_at, target}
use Rattle.rx_base.specs.FactBits.{bits_of, facts_with}
use Rattle.rx_stepper.specs.declared.column_span.ColumnSpan.{ColumnSpan}

-- a list where a test holds, and else none
abbrev pub only_if : Bool → List ℕ → List ℕ
only_if holds xs = if holds then xs else []

-- where a row leads, once for each time that a column is among those that it reads
abbrev pub led_by : ℕ → List ℕ → ℕ → List ℕ
led_by next columns column = flat_map (λ c. only_if (column == c) (next ∷ [])) columns

-- the columns whose units are in a set
abbrev pub read_by : ℕ → List ℕ → List ℕ
read_by set units = filter (λ column. contains set (slice_index units column)) (range_with_len 0 (length units))

-- the columns whose units a row reads, and where it leads
abbrev pub columns_of : Row → List ℕ → List ℕ
columns_of (Row.Bytes set next) units = read_by set units
columns_of _ units = []

abbrev pub next_of : Row → ℕ
next_of (Row.Bytes set next) = next
next_of _ = 0

-- a list of lists at a place
abbrev pub list_at : List (List ℕ) → ℕ → List ℕ
list_at lists place = slice_index_or lists place []

-- The spans lie within the columns, which are columns of a table.
pub record AreSpans (count : ℕ) (columns : List ℕ) (spans : List ColumnSpan) : Type 0 where
  pub within : (q : ℕ) (s : ColumnSpan) → slice_get spans q ≡ Some s → (s.start ≤ s.stop) × (s.stop ≤ length columns)
  pub few : All (λ column. column < count) columns

-- The spans of rows hold the columns whose units they read.
pub record Reads (rows : List Row) (units columns : List ℕ) (spans : List ColumnSpan) : Type 0 where
  pub len : length spans ≡ length rows
  pub reads : (q : ℕ) (s : ColumnSpan) → slice_get spans q ≡ Some s → (column : ℕ) → column < length units
      → led_by s.next (slice_range columns s.start s.stop) column ≡ target (slice_index units column) (row_at rows q)

-- what assertions ask of a unit
abbrev pub asked_of : Nfa → ℕ → Facts
asked_of nfa unit = both (facts_kept nfa.rows) (unit_facts nfa.line_terminator unit)

-- A column's group is the number of what assertions ask of its unit.
pub record IsGroup (nfa : Nfa) (unit group : ℕ) : Type 0 where
  pub bits : group ≡ bits_of (asked_of nfa unit)
  pub facts : facts_with group ≡ asked_of nfa unit

pub record AreGroups (nfa : Nfa) (units groups : List ℕ) : Type 0 where
  pub len : length groups ≡ length units
  pub each : (column : ℕ) → column < length units → IsGroup nfa (slice_index units column) (slice_index groups column)

-- the groups that have a column are marked
abbrev pub AreUsed : List ℕ → List Bool → Type 0
AreUsed groups used = (column : ℕ) → column < length groups
    → slice_index_or used (slice_index groups column) false ≡ true

-- whether a column is of a group, where one is named
abbrev pub takes : Option ℕ → List ℕ → ℕ → Bool
takes None groups column = true
takes (Some group) groups column = slice_index groups column == group
