-- The patterns of match rows in an image: for each match row the place and the length of its list among the pattern
-- ids; the number of patterns; and the pattern ids.
use Rattle.std.specs.Prelude.{◌≡◌, ℕ, ◌*◌, ◌/◌, ◌%◌, ◌^◌, ◌<◌, ◌≤◌, nat_le, if◌then◌else◌, List, ◌++◌, length, Result}
use Rattle.std.specs.Prelude.{Ok, Err}
use Rattle.std.specs.Int.{w32}
use Rattle.rx_wire.specs.declared.order.Order.{Order}
use Rattle.rx_wire.specs.Kinds.{Kind, ◌>>=◌}
use Rattle.rx_wire.specs.Fields.{field, number_at}
use Rattle.rx_spec.specs.Causes.{id_count}
use Rattle.rx_image_parts.specs.Words.{AreWords, words_at, words_text}

pub record PatternLists : Type 0 where
  pub slices : List ℕ
  pub pattern_len : ℕ
  pub pattern_ids : List ℕ

abbrev pub pattern_lists_text : Order → PatternLists → List ℕ
pattern_lists_text order lists =
    field order w32 (length lists.slices / 2)
    ++ (words_text order lists.slices
    ++ (field order w32 lists.pattern_len
    ++ (field order w32 (length lists.pattern_ids) ++ words_text order lists.pattern_ids)))

-- ---- reading

unfoldable pub pattern_len_at : Order → List ℕ → Result (ℕ × List ℕ) Kind
pattern_len_at order bytes = do
  n ← number_at order w32 bytes
  if nat_le n.0 id_count then Ok n else Err Kind.Generic

unfoldable pub pattern_lists_at : Order → List ℕ → Result (PatternLists × List ℕ) Kind
pattern_lists_at order bytes = do
  rows ← number_at order w32 bytes
  slices ← words_at order (2 * rows.0) rows.1
  pattern_len ← pattern_len_at order slices.1
  count ← number_at order w32 pattern_len.1
  ids ← words_at order count.0 count.1
  Ok (record { slices = slices.0; pattern_len = pattern_len.0; pattern_ids = ids.0 }, ids.1)

-- what is true of lists that were read
pub record AreReadLists (lists : PatternLists) : Type 0 where
  pub pairs : length lists.slices % 2 ≡ 0
  pub few_rows : length lists.slices < 2 * 2 ^ 32
  pub few_patterns : lists.pattern_len ≤ id_count
  pub few : length lists.pattern_ids < 2 ^ 32
  pub words : AreWords lists.slices
  pub ids : AreWords lists.pattern_ids
