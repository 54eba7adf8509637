-- Rows of a sparse table: ranges of byte classes with the id of the row to which each leads, where ids are byte
-- offsets; and the bytes of rows, in either byte order.
use Rattle.std.specs.Prelude.{ℕ, zero, suc, ◌+◌, ◌-◌, ◌*◌, ◌/◌, ◌%◌, ◌&&◌, nat_le, Bool, true, false, if◌then◌else◌}
use Rattle.std.specs.Prelude.{List, [], ◌∷◌, ◌++◌, length, map, take, drop, slice_index}
use Rattle.std.specs.List.{flat_map, range_with_len}
use Rattle.std.specs.Int.{w16, w32}
use Rattle.rx_wire.specs.declared.order.Order.{Order}
use Rattle.rx_wire.specs.Fields.{field, number}
use Rattle.rx_sparse.specs.declared.ranges.ClassRange.{ClassRange}

-- A row: its ranges, where a class in none of them leads to dead; where the end mark leads; the patterns of a match row
-- and the needles of an accelerated one. Of other rows there are none.
pub record Row : Type 0 where
  pub ranges : List ClassRange
  pub eoi : ℕ
  pub patterns : List ℕ
  pub needles : List ℕ

abbrev pub no_row : Row
no_row = record { ranges = []; eoi = 0; patterns = []; needles = [] }

abbrev pub no_range : ClassRange
no_range = record { first = 0; last = 0; next = 0 }

-- ---- where a row leads

abbrev pub has_class : ℕ → ClassRange → Bool
has_class class range = nat_le range.first class && nat_le class range.last

-- the next row on a class: that of the first range which has it, or dead
unfoldable pub next_among : List ClassRange → ℕ → ℕ
next_among [] class = 0
next_among (range ∷ ranges) class = if has_class class range then range.next else next_among ranges class

-- ---- the bytes of a row

-- Words stand one behind another.
abbrev pub words_text : Order → List ℕ → List ℕ
words_text order words = flat_map (field order w32) words

-- whether a row tells patterns
abbrev pub is_some_list : List ℕ → Bool
is_some_list [] = false
is_some_list (k ∷ ks) = true

-- how many ranges there are with that of the end mark, and in the highest bit whether the row tells patterns
abbrev pub head_number : Row → ℕ
head_number row = length row.ranges + 1 + (if is_some_list row.patterns then 32768 else 0)

-- the ends of the ranges; those of the end mark are 0 and 0
abbrev pub ends_text : List ClassRange → List ℕ
ends_text ranges = flat_map (λ range. range.first ∷ range.last ∷ []) ranges ++ 0 ∷ 0 ∷ []

-- where the ranges and the end mark lead
abbrev pub next_ids : Row → List ℕ
next_ids row = map (λ range. range.next) row.ranges ++ row.eoi ∷ []

abbrev pub patterns_text : Order → List ℕ → List ℕ
patterns_text order patterns =
    if is_some_list patterns then field order w32 (length patterns) ++ words_text order patterns else []

abbrev pub row_text : Order → Row → List ℕ
row_text order row =
    field order w16 (head_number row)
    ++ (ends_text row.ranges
    ++ (words_text order (next_ids row) ++ (patterns_text order row.patterns ++ length row.needles ∷ row.needles)))

-- rows one behind another
abbrev pub rows_text : Order → List Row → List ℕ
rows_text order rows = flat_map (row_text order) rows

-- ---- where rows begin

-- how many bytes a row has
abbrev pub row_len : Row → ℕ
row_len row =
    let patterns : ℕ = if is_some_list row.patterns then 4 + 4 * length row.patterns else 0 in
    2 + 6 * (length row.ranges + 1) + patterns + 1 + length row.needles

-- Where each row begins, of which the first does at a place. The offset of a row is its id.
unfoldable pub offsets_from : ℕ → List Row → List ℕ
offsets_from at [] = []
offsets_from at (row ∷ rows) = at ∷ offsets_from (at + row_len row) rows

-- how many bytes rows have together
unfoldable pub rows_len : List Row → ℕ
rows_len [] = 0
rows_len (row ∷ rows) = row_len row + rows_len rows

abbrev pub offsets : List Row → List ℕ
offsets rows = offsets_from 0 rows

-- ---- the row that bytes spell

-- the word at a place, and so many words
abbrev pub word_at : Order → List ℕ → ℕ → ℕ
word_at order bytes k = number order w32 (take 4 (drop (4 * k) bytes))

abbrev pub words_in : Order → ℕ → List ℕ → List ℕ
words_in order count bytes = map (word_at order bytes) (range_with_len 0 count)

-- how many ranges bytes name with that of the end mark, and whether they name patterns
abbrev pub count_in : Order → List ℕ → ℕ
count_in order bytes = number order w16 (take 2 bytes) % 32768

abbrev pub is_match_in : Order → List ℕ → Bool
is_match_in order bytes = nat_le 32768 (number order w16 (take 2 bytes))

-- the parts of a row behind its head: the ends of its ranges, its next ids, and what follows them
abbrev pub ends_in : Order → List ℕ → List ℕ
ends_in order bytes = take (2 * count_in order bytes) (drop 2 bytes)

abbrev pub behind_ends : Order → List ℕ → List ℕ
behind_ends order bytes = drop (2 * count_in order bytes) (drop 2 bytes)

abbrev pub next_ids_in : Order → List ℕ → List ℕ
next_ids_in order bytes = take (4 * count_in order bytes) (behind_ends order bytes)

abbrev pub rest_in : Order → List ℕ → List ℕ
rest_in order bytes = drop (4 * count_in order bytes) (behind_ends order bytes)

-- a range, by its place, where the ends of all ranges stand and where their next ids
abbrev pub range_in : Order → (ends ids : List ℕ) → ℕ → ClassRange
range_in order ends ids i = record {
  first = slice_index ends (2 * i);
  last = slice_index ends (2 * i + 1);
  next = word_at order ids i;
}

-- the patterns at the front of what follows, and the bytes that they take
abbrev pub patterns_in : Order → Bool → List ℕ → List ℕ
patterns_in order is_match rest = if is_match then words_in order (word_at order rest 0) (drop 4 rest) else []

abbrev pub patterns_len : Order → Bool → List ℕ → ℕ
patterns_len order is_match rest = if is_match then 4 + 4 * word_at order rest 0 else 0

abbrev pub needles_in : List ℕ → List ℕ
needles_in rest = take (slice_index rest 0) (drop 1 rest)

-- the row of its parts
abbrev pub row_of_parts : Order → Bool → (ends ids rest : List ℕ) → Row
row_of_parts order is_match ends ids rest = record {
  ranges = map (range_in order ends ids) (range_with_len 0 (length ends / 2 - 1));
  eoi = word_at order ids (length ends / 2 - 1);
  patterns = patterns_in order is_match rest;
  needles = needles_in (drop (patterns_len order is_match rest) rest);
}

-- the row at the front of bytes, whatever follows; nothing is tested
abbrev pub row_in : Order → List ℕ → Row
row_in order bytes =
    row_of_parts order (is_match_in order bytes) (ends_in order bytes) (next_ids_in order bytes) (rest_in order bytes)

-- so many rows, one behind another
unfoldable pub rows_in : Order → ℕ → List ℕ → List Row
rows_in order zero bytes = []
rows_in order (suc count) bytes =
    row_in order bytes ∷ rows_in order count (drop (row_len (row_in order bytes)) bytes)
