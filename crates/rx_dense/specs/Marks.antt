-- A word for each match row of a dense table, its mark, made ahead of searches: the row's first pattern, and 2^31 more
-- only where every column of the row leads to the dead row.
use Rattle.std.specs.Prelude.{◌≡◌, ℕ, ◌+◌, ◌*◌, ◌%◌, ◌^◌, ◌<◌, ◌≤◌, List, length, slice_index}
use Rattle.rx_spec.specs.Causes.{max_id}

-- the first of the patterns at a place, where there are some
abbrev pub first_pattern : (slices pattern_ids : List ℕ) → ℕ → ℕ
first_pattern slices pattern_ids i = slice_index pattern_ids (slice_index slices (2 * i))

pub record IsMark (words : List ℕ) (alphabet_len stride min_match : ℕ) (slices pattern_ids : List ℕ) (i mark : ℕ)
    : Type 0 where
  pub first : first_pattern slices pattern_ids i ≤ max_id → mark % 2 ^ 31 ≡ first_pattern slices pattern_ids i
  pub is_pattern : mark % 2 ^ 31 ≤ max_id
  pub final : 2 ^ 31 ≤ mark → (column : ℕ) → column < alphabet_len
      → slice_index words (min_match + i * stride + column) ≡ 0

-- What the marks that a table keeps say of its match rows, from the first one on. A table may keep none. Where it keeps
-- some, the id of the first match row is that of a row.
pub record AreMarks (words : List ℕ) (alphabet_len stride min_match : ℕ) (slices pattern_ids marks : List ℕ)
    : Type 0 where
  pub aligned : 0 < length marks → min_match % stride ≡ 0
  pub each : (i : ℕ) → i < length marks
      → IsMark words alphabet_len stride min_match slices pattern_ids i (slice_index marks i)
