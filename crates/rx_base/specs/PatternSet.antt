-- A set of patterns below a capacity, as a flag for each.
use Rattle.std.specs.Prelude.{ℕ, Bool, false, List, slice_get, unwrap_or, count_by}

-- whether a pattern is in the set; none past the capacity is
abbrev pub has_pattern : List Bool → ℕ → Bool
has_pattern set pattern = unwrap_or (slice_get set pattern) false

-- how many patterns are
abbrev pub pattern_count : List Bool → ℕ
pattern_count set = count_by (λ flag. flag) set
