-- Sets of bytes as words.
use Rattle.std.specs.Prelude.{ℕ, ◌+◌, ◌*◌, ◌^◌, List, slice_index}

-- the set of four words of 64 bits, the word of the least bytes first
abbrev pub set_of_words : List ℕ → ℕ
set_of_words words =
    let word = slice_index words in
    (word 3 * 2 ^ 64 + word 2) * 2 ^ 128 + (word 1 * 2 ^ 64 + word 0)
