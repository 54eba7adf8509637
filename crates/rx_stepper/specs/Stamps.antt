-- Which rows a closure has met.
use Rattle.std.specs.Prelude.{ℕ, ◌≤◌, ◌==◌, if◌then◌else◌, Bool, List, slice_index_or, sum_by}

-- a row was met where its stamp is the number of the closure under way; past the last stamp there is no row
abbrev pub is_met : List ℕ → ℕ → ℕ → Bool
is_met stamps now row = slice_index_or stamps row now == now

-- no closure has a greater number
abbrev pub AreStamps : List ℕ → ℕ → Type 0
AreStamps stamps now = (row : ℕ) → slice_index_or stamps row 0 ≤ now

-- how many rows were not met
abbrev pub unmet : List ℕ → ℕ → ℕ
unmet stamps now = sum_by (λ stamp. if stamp == now then 0 else 1) stamps
