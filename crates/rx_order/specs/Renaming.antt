-- Rows at other places, and the transitions that follow them (`IsRenamed`).
use Rattle.std.specs.Prelude.{ℕ, ◌≡◌, ◌<◌, ◌≤◌, ◌==◌, ◌*◌, ◌/◌, ◌^◌, List, [], length, map, get_or}
use Rattle.std.specs.List.{position_or_len, range_with_len}
use Rattle.std.specs.List.Sorted.{IsPermutation}
use Rattle.rx_spec.specs.Causes.{max_id}
use Rattle.rx_order.specs.Transitions.{Transitions}

-- Which old row lies at each place. Rows are told by their numbers; their ids have this exponent.
pub record Arrangement : Type 0 where
  pub rows : List ℕ
  pub stride2 : ℕ

-- What is true of every arrangement: the rows are numbered from 0 on, each lies at one place, and each place has an id.
pub record IsArrangement (a : Arrangement) : Type 0 where
  pub exponent : a.stride2 ≤ 30
  pub ids : (place : ℕ) → place < length a.rows → place * 2 ^ a.stride2 ≤ max_id
  pub permutation : IsPermutation (range_with_len 0 (length a.rows)) a.rows

-- every row in its own place
abbrev pub unmoved : Transitions → Arrangement
unmoved t = record { rows = range_with_len 0 (length t.rows); stride2 = t.stride2 }

-- an arrangement is one of this table's rows
pub record Fits (a : Arrangement) (t : Transitions) : Type 0 where
  pub count : length a.rows ≡ length t.rows
  pub stride2 : a.stride2 ≡ t.stride2

-- the place where an old row lies
abbrev pub place_of : Arrangement → ℕ → ℕ
place_of a row = position_or_len (λ other. other == row) a.rows

-- the id of that place, by the row's old id
abbrev pub new_id : Arrangement → ℕ → ℕ
new_id a id = place_of a (id / 2 ^ a.stride2) * 2 ^ a.stride2

abbrev pub row_at : Transitions → ℕ → List ℕ
row_at t row = get_or t.rows row []

-- The rows of the old table lie where the arrangement says, and are as they were.
abbrev pub rearranged : Arrangement → Transitions → Transitions
rearranged a old = record old { rows = map (row_at old) a.rows }

pub record IsRearranged (a : Arrangement) (old new : Transitions) : Type 0 where
  pub fits : Fits a old
  pub is : new ≡ rearranged a old

-- The old table, renamed: each of its rows lies at its place and leads to the places of the rows to which it led,
-- and searches start at the places of the rows in which they started. No two rows have one place.
pub record IsRenamed (a : Arrangement) (old new : Transitions) : Type 0 where
  pub permutation : IsPermutation (range_with_len 0 (length old.rows)) a.rows
  pub count : length new.rows ≡ length old.rows
  pub stride2 : new.stride2 ≡ old.stride2
  pub rows : (row : ℕ) → row < length old.rows → row_at new (place_of a row) ≡ map (new_id a) (row_at old row)
  pub starts : new.starts ≡ map (new_id a) old.starts
