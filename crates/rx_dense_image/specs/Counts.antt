-- For each prefix of the pattern ids, how many of its numbers are no ids of patterns.
use Rattle.std.specs.Prelude.{ℕ, Bool, nat_le, List, count_by}

abbrev pub is_stranger : (pattern_len id : ℕ) → Bool
is_stranger pattern_len id = nat_le pattern_len id

-- how many there are
abbrev pub strangers : ℕ → List ℕ → ℕ
strangers pattern_len ids = count_by (is_stranger pattern_len) ids
