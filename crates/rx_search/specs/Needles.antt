-- Needles: the bytes that lead an accelerated row elsewhere, to the next of which a search skips.
use Rattle.std.specs.Prelude.{ℕ, ◌≡◌, ◌≢◌, ◌<◌, ◌≤◌, ◌+◌, ◌-◌, Bool, true, false, ◌==◌, ◌||◌, Option, List, []}
use Rattle.std.specs.Prelude.{◌∷◌, slice_index}
use Rattle.std.specs.List.{list_any}
use Rattle.memchr.specs.Find.{IsFirstByte}
use Rattle.rx_spec.specs.Queries.{Query}
use Rattle.rx_spec.specs.Tables.{Table}
use Rattle.rx_spec.specs.HalfSearches.{unit_offset}
use Rattle.rx_spec.specs.declared.Direction.{Direction}
use Rattle.rx_search.specs.Walks.{IsInSpan, last_offset, bytes_left}

abbrev pub is_nil : List ℕ → Bool
is_nil [] = true
is_nil (x ∷ xs) = false

abbrev pub is_needle : List ℕ → ℕ → Bool
is_needle needles byte = list_any (λ needle. byte == needle) needles

-- the place of the first needle in a haystack, if it has one
abbrev pub IsFirstNeedle : List ℕ → List ℕ → Option ℕ → Type 0
IsFirstNeedle needles haystack place = IsFirstByte (is_needle needles) haystack place

-- ---- skips

-- the byte that is read next at an offset of a haystack
abbrev pub byte_ahead : Direction → List ℕ → ℕ → ℕ
byte_ahead direction haystack offset = slice_index haystack (unit_offset direction offset)

-- the offset after so many bytes
abbrev pub offset_after : Direction → ℕ → ℕ → ℕ
offset_after Direction.Forward offset n = offset + n
offset_after Direction.Reverse offset n = offset - n

-- The next needle from an offset of the span on: no byte before it is one, and there is one there, if the span
-- has one more byte there.
pub record IsNextNeedle (needles : List ℕ) (direction : Direction) (q : Query) (from to : ℕ) : Type 0 where
  pub count : ℕ
  pub there : to ≡ offset_after direction from count
  pub enough : count ≤ bytes_left direction q from
  pub in_span : IsInSpan q to
  pub none : (k : ℕ) → k < count
      → is_needle needles (byte_ahead direction q.haystack (offset_after direction from k)) ≡ false
  pub stands : to ≢ last_offset direction q → is_needle needles (byte_ahead direction q.haystack to) ≡ true

-- a byte of the span that is read from a row may not be skipped: the row has no needles, or the byte is one
abbrev pub is_read : Table → ℕ → ℕ → Bool
is_read t row byte = is_nil (t.needles row) || is_needle (t.needles row) byte

-- A walk at a row may pass from an offset to another: all bytes between them may be skipped, and the next, if
-- the span has one more, may not.
pub record Skips (t : Table) (direction : Direction) (q : Query) (row from to : ℕ) : Type 0 where
  pub count : ℕ
  pub there : to ≡ offset_after direction from count
  pub enough : count ≤ bytes_left direction q from
  pub in_span : IsInSpan q to
  pub skipped : (k : ℕ) → k < count
      → is_read t row (byte_ahead direction q.haystack (offset_after direction from k)) ≡ false
  pub is_ready : to ≢ last_offset direction q → is_read t row (byte_ahead direction q.haystack to) ≡ true
