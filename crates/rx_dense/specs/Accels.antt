-- Accelerators: the needles of accelerated rows, kept in two words each, as an image has them.
use Rattle.std.specs.Prelude.{ℕ, ◌*◌, ◌/◌, ◌%◌, ◌==◌, ◌&&◌, Bool, not, nat_lt, List, [], ◌∷◌, length, map, take}
use Rattle.std.specs.Prelude.{slice_index}
use Rattle.std.specs.List.{range_with_len}

-- A first word, from its low byte on: how many needles there are, and three bytes, the needles first. A second
-- word is kept free.
abbrev pub word_needles : ℕ → List ℕ
word_needles word = take (word % 256) (word / 256 % 256 ∷ word / 65536 % 256 ∷ word / 16777216 % 256 ∷ [])

abbrev pub accel_lists : List ℕ → List (List ℕ)
accel_lists words = map (λ i. word_needles (slice_index words (2 * i))) (range_with_len 0 (length words / 2))

-- whether a byte may be added to needles: there are fewer than three, and it is no space
abbrev pub takes : List ℕ → ℕ → Bool
takes needles byte = nat_lt (length needles) 3 && not (byte == 32)
