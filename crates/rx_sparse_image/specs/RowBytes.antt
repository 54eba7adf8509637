-- The rows of a sparse image before any of them is tested: the number of rows and of patterns, the class of each byte,
-- the length of the rows in bytes, and these bytes.
use Rattle.std.specs.Prelude.{ℕ, ◌^◌, ◌<◌, ◌≤◌, ◌&&◌, nat_le, if◌then◌else◌, List, length, Result, Ok, Err}
use Rattle.std.specs.Int.{w32}
use Rattle.rx_spec.specs.Causes.{id_count}
use Rattle.rx_base.specs.ByteClasses.{AreClasses}
use Rattle.rx_wire.specs.declared.order.Order.{Order}
use Rattle.rx_wire.specs.Kinds.{Kind, ◌>>=◌}
use Rattle.rx_wire.specs.Fields.{bytes_at, number_at}
use Rattle.rx_image_parts.specs.Classes.{are_classes}

pub record RowBytes : Type 0 where
  pub state_len : ℕ
  pub pattern_len : ℕ
  pub classes : List ℕ
  pub rows : List ℕ

-- Classes of bytes and the number of patterns before them: both are there before either is tested.
abbrev pub tested_classes : (pattern_len : ℕ) → List ℕ → Result (List ℕ) Kind
tested_classes pattern_len classes =
    if nat_le pattern_len id_count && are_classes classes then Ok classes else Err Kind.Generic

unfoldable pub settings_at : Order → List ℕ → Result ((ℕ × List ℕ) × List ℕ) Kind
settings_at order bytes = do
  pattern_len ← number_at order w32 bytes
  front ← bytes_at 256 pattern_len.1
  classes ← tested_classes pattern_len.0 front.0
  Ok ((pattern_len.0, classes), front.1)

unfoldable pub row_bytes_at : Order → List ℕ → Result (RowBytes × List ℕ) Kind
row_bytes_at order bytes = do
  count ← number_at order w32 bytes
  settings ← settings_at order count.1
  len ← number_at order w32 settings.1
  rows ← bytes_at len.0 len.1
  Ok (
    record {
      state_len = count.0;
      pattern_len = settings.0.0;
      classes = settings.0.1;
      rows = rows.0;
    },
    rows.1,
  )

-- what is true of them where they were read
pub record AreReadBytes (r : RowBytes) : Type 0 where
  pub few_rows : r.state_len < 2 ^ 32
  pub few_patterns : r.pattern_len ≤ id_count
  pub classes : AreClasses r.classes
  pub len : length r.rows < 2 ^ 32
