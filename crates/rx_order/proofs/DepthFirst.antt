-- A walk over the rows of a table, as deep as it can go.
use Rattle.rx_spec.proofs.Prelude.{rules, ◌≡◌, ℕ, ◌+◌, ◌-◌, ◌*◌, ◌/◌, ◌%◌, ◌<◌, ◌≤◌, ◌^◌, ◌++◌, [], ◌∷◌, List, All}
use Rattle.rx_spec.proofs.Prelude.{Some, length, slice_index, slice_set, arith, common_steps, mod-eq_of_lt, cases_eq}
use Rattle.rx_spec.proofs.Prelude.{get_or-set_other, get_or-range_with_len, pow_pos, range_with_len}
use Rattle.rx_order.proofs.Prelude.{Layout, alphabet_len, multiple_below, row-below, row_count, stride, stride_few}
use Rattle.std.proofs.lemmas.List.Elements.{All-pop}
use Rattle.rx_dense.specs.Layouts.{AreRows}

-- a row from which the walk goes on, with how many of its columns are left
abbrev pub IsLeft : Layout → ℕ × ℕ → Type 0
IsLeft l p = (p.0 < row_count l) × (0 < p.1) × (p.1 ≤ alphabet_len l.classes)

abbrev pub AreLeft : Layout → List (ℕ × ℕ) → Type 0
AreLeft l left = All (IsLeft l) left

-- a row that was found has all its columns
pub found_row : (l : Layout) (row columns : ℕ) → row < row_count l → columns ≡ alphabet_len l.classes
    → IsLeft l (row, columns)
found_row l row columns h e = (h, omega (arith, e), omega (arith, e))

-- the row that was added last, and those before it
pub last_left : (l : Layout) (left others : List (ℕ × ℕ)) (row count : ℕ) → AreLeft l left
    → left ≡ others ++ (row, count) ∷ [] → AreLeft l others × IsLeft l (row, count)
last_left l left others row count all e = All-pop (IsLeft l) left others (Some (row, count)) e all

-- the last column that is left of a row
pub record IsStep (l : Layout) (row count : ℕ) : Type 0 where
  pub place : row * stride l % 2 ^ 64 ≡ row * stride l
  pub fits : row * stride l + count < 2 ^ 32
  pub within : row * stride l + (count - 1) < length l.words
  pub next : slice_index l.words (row * stride l + (count - 1)) / stride l < row_count l

pub step : {l : Layout} → AreRows l → (row count : ℕ) → IsLeft l (row, count) → IsStep l row count
step {l} are row count own = search (rules, multiple_below, pow_pos, stride_few, mod-eq_of_lt, row-below)

-- the ranks of rows that no walk comes to
pub numbered : (ranks : List ℕ) (n row : ℕ) → ranks ≡ range_with_len 0 n → row < n → slice_index ranks row ≡ row
numbered ranks n row e h = grind (arith, common_steps, get_or-range_with_len)

-- a row that isn't a match row gets a rank
pub ranks_kept : (kinds ranks : List ℕ) (n next rank : ℕ)
    → ((row : ℕ) → row < n → slice_index kinds row ≡ 2 → slice_index ranks row ≡ row)
    → (slice_index kinds next ≡ 2 → ⊥) → (row : ℕ) → row < n → slice_index kinds row ≡ 2
    → slice_index (slice_set ranks next rank) row ≡ row
ranks_kept kinds ranks n next rank h other row low two = grind (arith, common_steps, get_or-set_other, cases_eq)
