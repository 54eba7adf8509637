-- The special ids of a table whose rows lie in the order of their kinds.
use Rattle.std.specs.Prelude.{ℕ, ◌≡◌, ◌<◌, ◌≤◌, ◌-◌, ◌*◌, Bool, nat_le, nat_lt, if◌then◌else◌, List, slice_index}
use Rattle.rx_dense.specs.declared.special.Special.{Special}
use Rattle.rx_dense.specs.Specials.{greatest}

-- the first and the last id of the rows from one place up to another; 0 and 0 where there are none
abbrev pub first_id : (width from to : ℕ) → ℕ
first_id width from to = if nat_lt from to then from * width else 0

abbrev pub last_id : (width from to : ℕ) → ℕ
last_id width from to = if nat_lt from to then (to - 1) * width else 0

-- Match rows are the kinds 2 and 3, accelerated rows 3 to 5, and start rows 5 and 6, where these are marked. A list has
-- the place behind the last row of each kind.
abbrev pub special_ids : (width : ℕ) (ends : List ℕ) (marked : Bool) → Special
special_ids width ends marked =
    let end : ℕ → ℕ = λ kind. slice_index ends kind in
    let special : Special = record {
      max = 0;
      quit = width;
      min_match = first_id width (end 1) (end 3);
      max_match = last_id width (end 1) (end 3);
      min_accel = first_id width (end 2) (end 5);
      max_accel = last_id width (end 2) (end 5);
      min_start = if marked then first_id width (end 4) (end 6) else 0;
      max_start = if marked then last_id width (end 4) (end 6) else 0;
    } in
    record special { max = greatest special }

-- The rows of a table lie by their kinds: dead first, then quit, then the others. A list has the place behind the last
-- row of each kind or a lower one.
pub record AreKindEnds (size : ℕ) (kind_at : ℕ → ℕ) (ends : List ℕ) : Type 0 where
  pub two : 2 ≤ size
  pub dead : kind_at 0 ≡ 0
  pub quit : kind_at 1 ≡ 1
  pub others : (row : ℕ) → 1 < row → row < size → 1 < kind_at row
  pub within : (kind : ℕ) → kind < 8 → slice_index ends kind ≤ size
  pub to_end : (row kind : ℕ) → row < size → kind < 8
      → nat_lt row (slice_index ends kind) ≡ nat_le (kind_at row) kind
