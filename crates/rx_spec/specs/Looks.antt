-- Assertions (look-around without width, as in Perl): tests of the two bytes beside a place. Their names
-- and their meanings on bytes are those of the Rust crate regex-automata.
use Rattle.std.specs.Prelude.{ℕ, zero, suc, Bool, true, false, not, ◌==◌, ◌&&◌, ◌||◌, Option, Some, None, is_none, List}
use Rattle.std.specs.Prelude.{slice_get}
use Rattle.rx_spec.specs.Bytes.{is_word}
use Rattle.rx_spec.specs.declared.Direction.{Direction}
use Rattle.rx_spec.specs.declared.Look.{Look}

-- the byte before a place of the haystack, and the byte after it; each may be absent
abbrev pub before : List ℕ → ℕ → Option ℕ
before haystack zero = None
before haystack (suc i) = slice_get haystack i

abbrev pub after : List ℕ → ℕ → Option ℕ
after haystack i = slice_get haystack i

-- whether a neighbour is this byte, and whether it is a word byte; an absent one is neither
abbrev pub is_byte : Option ℕ → ℕ → Bool
is_byte None x = false
is_byte (Some b) x = b == x

abbrev pub is_word_byte : Option ℕ → Bool
is_word_byte None = false
is_word_byte (Some b) = is_word b

-- exactly one of the two
abbrev pub differ : Bool → Bool → Bool
differ true b = not b
differ false b = b

-- Whether an assertion holds between the byte before and the byte after, under a line terminator.
-- 10 is \n and 13 is \r. The Unicode word assertions are decided by ASCII word bytes.
abbrev pub holds : Look → ℕ → Option ℕ → Option ℕ → Bool
holds Look.Start t b a = is_none b
holds Look.End t b a = is_none a
holds Look.StartLF t b a = is_none b || is_byte b t
holds Look.EndLF t b a = is_none a || is_byte a t
holds Look.StartCRLF t b a = is_none b || is_byte b 10 || (is_byte b 13 && not (is_byte a 10))
holds Look.EndCRLF t b a = is_none a || is_byte a 13 || (is_byte a 10 && not (is_byte b 13))
holds Look.WordAscii t b a = differ (is_word_byte b) (is_word_byte a)
holds Look.WordAsciiNegate t b a = not (differ (is_word_byte b) (is_word_byte a))
holds Look.WordUnicode t b a = differ (is_word_byte b) (is_word_byte a)
holds Look.WordUnicodeNegate t b a = not (differ (is_word_byte b) (is_word_byte a))
holds Look.WordStartAscii t b a = is_word_byte a && not (is_word_byte b)
holds Look.WordEndAscii t b a = is_word_byte b && not (is_word_byte a)
holds Look.WordStartUnicode t b a = is_word_byte a && not (is_word_byte b)
holds Look.WordEndUnicode t b a = is_word_byte b && not (is_word_byte a)
holds Look.WordStartHalfAscii t b a = not (is_word_byte b)
holds Look.WordEndHalfAscii t b a = not (is_word_byte a)
holds Look.WordStartHalfUnicode t b a = not (is_word_byte b)
holds Look.WordEndHalfUnicode t b a = not (is_word_byte a)

-- the six assertions of Unicode words
abbrev pub is_unicode_word : Look → Bool
is_unicode_word Look.WordUnicode = true
is_unicode_word Look.WordUnicodeNegate = true
is_unicode_word Look.WordStartUnicode = true
is_unicode_word Look.WordEndUnicode = true
is_unicode_word Look.WordStartHalfUnicode = true
is_unicode_word Look.WordEndHalfUnicode = true
is_unicode_word _ = false

-- A haystack in the order in which it is read, byte by byte.
pub record Reading : Type 0 where
  pub line_terminator : ℕ
  pub direction : Direction
  pub units : List ℕ

-- Whether an assertion holds between what was read last and what is read next. In reverse, what is read
-- next stands before.
abbrev pub holds_between : Direction → Look → ℕ → Option ℕ → Option ℕ → Bool
holds_between Direction.Forward look t last next = holds look t last next
holds_between Direction.Reverse look t last next = holds look t next last

-- whether it holds at a place of a reading
abbrev pub holds_at : Reading → Look → ℕ → Bool
holds_at r look i = holds_between r.direction look r.line_terminator (before r.units i) (after r.units i)
