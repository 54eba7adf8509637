-- Blocks of rows that behave alike, and their first rows.
use Rattle.std.specs.Prelude.{ℕ, ◌≡◌, ◌≢◌, ◌↔◌, ◌<◌, ◌≤◌, List, length, slice_index}
use Rattle.rx_spec.specs.Labels.{BehaveAlike, AreToldApart}
use Rattle.rx_spec.specs.Tables.{Table}

-- Each row has the number of its block: rows with one number behave alike, and a word tells the others apart.
pub record AreBlocks (t : Table) (blocks : List ℕ) : Type 0 where
  pub count : length blocks ≡ t.size
  pub alike : (x y : ℕ) → x < t.size → y < t.size → slice_index blocks x ≡ slice_index blocks y → BehaveAlike t x y
  pub told : (x y : ℕ) → x < t.size → y < t.size → slice_index blocks x ≢ slice_index blocks y → AreToldApart t x y

-- rows of a table of so many rows, in rising order
pub record AreFirsts (size : ℕ) (firsts : List ℕ) : Type 0 where
  pub below : (k : ℕ) → k < length firsts → slice_index firsts k < size
  pub rising : (j k : ℕ) → j < k → k < length firsts → slice_index firsts j < slice_index firsts k

-- The blocks have other numbers, in the order of their first rows.
pub record AreRenumbered (blocks numbers firsts : List ℕ) : Type 0 where
  pub count : length numbers ≡ length blocks
  pub same : (x y : ℕ) → x < length blocks → y < length blocks
      → (slice_index numbers x ≡ slice_index numbers y) ↔ (slice_index blocks x ≡ slice_index blocks y)
  pub below : (x : ℕ) → x < length blocks → slice_index numbers x < length firsts
  pub are_firsts : AreFirsts (length blocks) firsts
  pub first_number : (k : ℕ) → k < length firsts → slice_index numbers (slice_index firsts k) ≡ k
  pub first_least : (x : ℕ) → x < length blocks → slice_index firsts (slice_index numbers x) ≤ x
