-- Rows that change places or are copied, word by word.
use Rattle.rx_spec.proofs.Prelude.{◌≡◌, ℕ, ◌+◌, ◌<◌, ◌≤◌, List, length, slice_index}
use Rattle.rx_dense.specs.Builder.{IsOutside}

-- so many columns are exchanged, and the others are not
pub record Exchange (width column : ℕ) (old new : List ℕ) (first second : ℕ) : Type 0 where
  pub count : length new ≡ length old
  pub at_first : (c : ℕ) → c < column → slice_index new (first + c) ≡ slice_index old (second + c)
  pub at_second : (c : ℕ) → c < column → slice_index new (second + c) ≡ slice_index old (first + c)
  pub first_left : (c : ℕ) → column ≤ c → c < width → slice_index new (first + c) ≡ slice_index old (first + c)
  pub second_left : (c : ℕ) → column ≤ c → c < width → slice_index new (second + c) ≡ slice_index old (second + c)
  pub others : (k : ℕ) → IsOutside first width k → IsOutside second width k → slice_index new k ≡ slice_index old k

-- ---- a row that is copied

-- so many columns are copied, and the source has stayed
pub record Copying (width column : ℕ) (old new : List ℕ) (from to : ℕ) : Type 0 where
  pub count : length new ≡ length old
  pub there : (c : ℕ) → c < column → slice_index new (to + c) ≡ slice_index old (from + c)
  pub others : (k : ℕ) → IsOutside to width k → slice_index new k ≡ slice_index old k
