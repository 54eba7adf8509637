-- The rows of an image, one after another, each with its own tests.
use Rattle.std.specs.Prelude.{ℕ, zero, suc, ◌+◌, ◌-◌, ◌*◌, ◌%◌, ◌==◌, ◌&&◌, ◌||◌, nat_lt, nat_le, Bool, not}
use Rattle.std.specs.Prelude.{if◌then◌else◌, List, [], ◌∷◌, length, slice_index, drop, Result, Ok, Err}
use Rattle.std.specs.List.{list_all, range_with_len}
use Rattle.std.specs.Int.{w16, w32}
use Rattle.rx_spec.specs.Causes.{max_id}
use Rattle.rx_wire.specs.Kinds.{Kind, ◌>>=◌}
use Rattle.rx_wire.specs.Fields.{bytes_at, number_at}
use Rattle.rx_dense.specs.Specials.{is_accel_id, is_match_id}
use Rattle.rx_image_parts.specs.SpecialIds.{is_named}
use Rattle.rx_sparse_image.specs.declared.rows.Bounds.{Bounds}
use Rattle.rx_sparse.specs.Rows.{Row, row_in, word_at, words_in}

-- the number, if a test holds
abbrev pub tested : Bool → Kind → ℕ → Result ℕ Kind
tested holds kind n = if not holds then Err kind else Ok n

-- How many numbers of a list there are, where each passes a test. Else the first test that fails.
unfoldable pub each_passes : (ℕ → Result ℕ Kind) → List ℕ → Result ℕ Kind
each_passes test [] = Ok 0
each_passes test (n ∷ ns) = do
  first ← test n
  count ← each_passes test ns
  Ok (suc count)

-- ---- the head: how many ranges there are, and whether the row tells patterns

-- a special row is dead, quit, or in a range
abbrev pub may_be_special : Bounds → (at : ℕ) → Bool
may_be_special b at = not (nat_le at b.special.max) || is_named b.special at

abbrev pub is_match_head : ℕ → Bool
is_match_head n = nat_le 32768 n

abbrev pub range_count : ℕ → ℕ
range_count n = n % 32768

-- one range at least, that of the end mark, and the mark of a match row exactly where the row is one
abbrev pub is_head : Bounds → (at n : ℕ) → Bool
is_head b at n =
    nat_le 1 (range_count n) && nat_le (range_count n) 257
    && (if is_match_id b.special at then is_match_head n else not (is_match_head n))

unfoldable pub head_at : Bounds → (at : ℕ) → List ℕ → Result (ℕ × List ℕ) Kind
head_at b at bytes = do
  special ← tested (may_be_special b at) Kind.Generic at
  n ← number_at b.order w16 bytes
  head ← tested (is_head b at n.0) Kind.Generic n.0
  Ok (head, n.1)

-- ---- the ends of the ranges

-- a range doesn't end before it begins, is one of byte classes, and begins behind the one before it
abbrev pub is_range_at : (last_class : ℕ) → List ℕ → ℕ → Bool
is_range_at last_class ends i =
    nat_le (slice_index ends (2 * i)) (slice_index ends (2 * i + 1)) && nat_le (slice_index ends (2 * i + 1)) last_class
    && ((i == 0) || nat_lt (slice_index ends (2 * i - 1)) (slice_index ends (2 * i)))

-- all but the last, which stands for the end mark
abbrev pub are_ends : (last_class count : ℕ) → List ℕ → Bool
are_ends last_class count ends =
    list_all (is_range_at last_class ends) (range_with_len 0 (count - 1))
    && (slice_index ends (2 * count - 2) == 0) && (slice_index ends (2 * count - 1) == 0)

unfoldable pub ends_at : Bounds → (count : ℕ) → List ℕ → Result (List ℕ × List ℕ) Kind
ends_at b count bytes = do
  ends ← bytes_at (2 * count) bytes
  if are_ends b.last_class count ends.0 then Ok ends else Err Kind.Generic

-- ---- where they lead

abbrev pub tested_id : Bounds → ℕ → Result ℕ Kind
tested_id b id =
    if not (nat_le id max_id) then Err (Kind.StateID id)
    else (if nat_le id b.len then Ok id else Err Kind.BufferTooSmall)

unfoldable pub next_ids_at : Bounds → (count : ℕ) → List ℕ → Result (List ℕ × List ℕ) Kind
next_ids_at b count bytes = do
  ids ← bytes_at (4 * count) bytes
  passed ← each_passes (tested_id b) (words_in b.order count ids.0)
  Ok ids

-- ---- the patterns of a match row

abbrev pub tested_pattern : Bounds → ℕ → Result ℕ Kind
tested_pattern b id =
    if not (nat_le id max_id) then Err (Kind.PatternID id)
    else (if nat_lt id b.pattern_len then Ok id else Err Kind.Generic)

abbrev pub tested_count : ℕ → Result ℕ Kind
tested_count count = if count == 0 then Err Kind.Generic else Ok count

-- the bytes after them
unfoldable pub after_patterns : Bounds → List ℕ → Result (List ℕ) Kind
after_patterns b bytes = do
  count ← number_at b.order w32 bytes
  some ← tested_count count.0
  ids ← bytes_at (4 * some) count.1
  passed ← each_passes (tested_pattern b) (words_in b.order some ids.0)
  Ok ids.1

-- a row that is no match row has none
abbrev pub after_patterns_if : Bounds → Bool → List ℕ → Result (List ℕ) Kind
after_patterns_if b is_match bytes = if is_match then after_patterns b bytes else Ok bytes

-- ---- the needles of an accelerated row

-- there are at most three, and some exactly where the row is accelerated
abbrev pub may_have : (is_accel : Bool) → ℕ → Bool
may_have is_accel count = nat_le count 3 && (if is_accel then nat_lt 0 count else count == 0)

-- their count is there
abbrev pub has_count : (is_accel : Bool) → List ℕ → Bool
has_count is_accel bytes = nat_lt 0 (length bytes) && may_have is_accel (slice_index bytes 0)

unfoldable pub needles_at : (is_accel : Bool) → List ℕ → Result (List ℕ × List ℕ) Kind
needles_at is_accel bytes =
    if not (has_count is_accel bytes) then Err Kind.Generic else bytes_at (slice_index bytes 0) (drop 1 bytes)

-- ---- a row

-- the end mark doesn't lead to quit, and where the next row begins is an id
abbrev pub tested_next : Bounds → (eoi next : ℕ) → Result ℕ Kind
tested_next b eoi next =
    if eoi == b.special.quit then Err Kind.Generic
    else (if nat_le next max_id then Ok next else Err (Kind.StateID next))

-- The row that begins at a place, where it passes its tests, and the bytes after it. The end mark's id is the last.
unfoldable pub row_at : Bounds → (at : ℕ) → List ℕ → Result (Row × List ℕ) Kind
row_at b at bytes = do
  head ← head_at b at bytes
  ends ← ends_at b (range_count head.0) head.1
  ids ← next_ids_at b (range_count head.0) ends.1
  rest ← after_patterns_if b (is_match_head head.0) ids.1
  needles ← needles_at (is_accel_id b.special at) rest
  next ← tested_next b (word_at b.order ids.0 (range_count head.0 - 1)) (b.len - length needles.1)
  Ok (row_in b.order bytes, needles.1)

-- All rows up to the end of their bytes. A row has a byte at least, so there are no more of them than bytes.
unfoldable pub rows_from : Bounds → (most : ℕ) → List ℕ → Result (List Row) Kind
rows_from b zero bytes = Ok []
rows_from b (suc most) [] = Ok []
rows_from b (suc most) (byte ∷ bytes) = do
  row ← row_at b (b.len - suc (length bytes)) (byte ∷ bytes)
  rows ← rows_from b most row.1
  Ok (row.0 ∷ rows)

abbrev pub rows_at : Bounds → List ℕ → Result (List Row) Kind
rows_at b bytes = rows_from b (length bytes) bytes
