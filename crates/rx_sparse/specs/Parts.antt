-- The table of some parts and bytes.
use Rattle.std.specs.Prelude.{ℕ, ◌≡◌, ◌≤◌, ◌<◌, ◌+◌, ◌*◌, ◌/◌, ◌%◌, ◌^◌, Bool, List, ◌++◌, length, slice_index}
use Rattle.rx_spec.specs.Causes.{max_id}
use Rattle.rx_wire.specs.declared.order.Order.{Order}
use Rattle.rx_sparse.specs.Rows.{Row, next_ids, patterns_in, patterns_len, row_in, row_text, rows_in, rows_text}
use Rattle.rx_sparse.specs.Rows.{word_at, words_in}
use Rattle.rx_sparse.specs.Layouts.{IsShaped, Stored}
use Rattle.rx_sparse.specs.declared.parts.Parts.{Parts}

-- the table whose rows and start entries are these bytes
abbrev pub stored : Parts → (rows starts : List ℕ) → Stored
stored p rows starts = record {
  layout = record {
    flags = p.flags;
    classes = p.classes;
    pattern_len = p.pattern_len;
    rows = rows_in p.order p.state_len rows;
    start_kind = p.start_kind;
    contexts = p.contexts;
    pattern_starts = p.start_pattern_len;
    starts = words_in p.order (length starts / 4) starts;
    universal_unanchored = p.universal_unanchored;
    universal_anchored = p.universal_anchored;
    special = p.special;
    quit = p.quitset;
  };
  order = p.order;
}

-- The bytes are those of the rows and whole words of start entries, and the layout has the shape of a sparse table.
pub record AreParts (p : Parts) (rows starts : List ℕ) : Type 0 where
  pub whole : rows_text p.order (rows_in p.order p.state_len rows) ≡ rows
  pub words : length starts % 4 ≡ 0
  pub shaped : IsShaped (stored p rows starts).layout

-- A row has no more ranges than there are byte classes, no more patterns than a word can count, and its numbers are
-- ids.
pub record FitsBytes (row : Row) : Type 0 where
  pub few : length row.ranges ≤ 256
  pub next_ids : (i : ℕ) → i < length (next_ids row) → slice_index (next_ids row) i ≤ max_id
  pub few_patterns : length row.patterns < 2 ^ 32
  pub patterns : (i : ℕ) → i < length row.patterns → slice_index row.patterns i ≤ max_id
  pub needles : length row.needles ≤ 3

-- a row stands whole at the front of bytes
pub record IsWholeRow (order : Order) (bytes : List ℕ) : Type 0 where
  pub rest : List ℕ
  pub stands : bytes ≡ row_text order (row_in order bytes) ++ rest
  pub fits : FitsBytes (row_in order bytes)

-- the parts of a decoded row: they have as many bytes as they name, and all ids are ids
pub record IsDecoded (order : Order) (is_match : Bool) (ends ids rest : List ℕ) : Type 0 where
  pub some : 2 ≤ length ends
  pub words : length ids ≡ 2 * length ends
  pub small : (i : ℕ) → i < length ends / 2 → word_at order ids i ≤ max_id
  pub needles : patterns_len order is_match rest + 1 + slice_index rest (patterns_len order is_match rest) ≤ length rest
  pub few : slice_index rest (patterns_len order is_match rest) ≤ 3
  pub patterns : (i : ℕ) → i < length (patterns_in order is_match rest)
      → slice_index (patterns_in order is_match rest) i ≤ max_id
