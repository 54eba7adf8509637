-- Words, one after another.
use Rattle.std.specs.Prelude.{ℕ, ◌*◌, ◌^◌, ◌<◌, List, map, take, drop, slice_index, Result, Ok}
use Rattle.std.specs.List.{flat_map, range_with_len}
use Rattle.std.specs.Int.{w32}
use Rattle.rx_wire.specs.declared.order.Order.{Order}
use Rattle.rx_wire.specs.Kinds.{Kind, ◌>>=◌}
use Rattle.rx_wire.specs.Fields.{bytes_at, field, number}

-- the word at a place
abbrev pub word_at : Order → List ℕ → ℕ → ℕ
word_at order bytes k = number order w32 (take 4 (drop (4 * k) bytes))

abbrev pub words_of : Order → List ℕ → ℕ → List ℕ
words_of order bytes count = map (word_at order bytes) (range_with_len 0 count)

-- each is a word
abbrev pub AreWords : List ℕ → Type 0
AreWords words = (i : ℕ) → slice_index words i < 2 ^ 32

-- so many words
unfoldable pub words_at : Order → ℕ → List ℕ → Result (List ℕ × List ℕ) Kind
words_at order count bytes = do
  front ← bytes_at (4 * count) bytes
  Ok (words_of order front.0 count, front.1)

abbrev pub words_text : Order → List ℕ → List ℕ
words_text order words = flat_map (field order w32) words
