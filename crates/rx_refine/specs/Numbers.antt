-- Numbers for the rows of a table by which they are grouped into blocks again.
use Rattle.std.specs.Prelude.{ℕ, ◌≡◌, ◌<◌, ◌≤◌, ◌+◌, ◌-◌, ◌*◌, ◌⊎◌, true, false, List, length, slice_index, count_by}
use Rattle.std.specs.Prelude.{eqb, Contains}
use Rattle.rx_refine.specs.Places.{how_many}
use Rattle.rx_refine.specs.Parts.{Parts, block_of, size_of, is_in}

-- how many rows of a list have a key
abbrev pub how_many_have : List ℕ → ℕ → List ℕ → ℕ
how_many_have keys key rows = count_by (λ row. eqb (slice_index keys row) key) rows

-- each row has a number below the count, and each of these numbers is a row's
pub record AreNumbers (count : ℕ) (numbers : List ℕ) : Type 0 where
  pub below : (row : ℕ) → row < length numbers → slice_index numbers row < count
  pub used : (number : ℕ) → number < count → Contains numbers number

-- The rows of a list get numbers by their keys: those with one key keep theirs, and each other key has a
-- new number. At most half of the rows have such a key.
pub record NumbersRows (rows keys : List ℕ) (first : ℕ) (old new : List ℕ) (count : ℕ) : Type 0 where
  pub kept : ℕ
  pub some : 0 < length rows → (x : ℕ) × (is_in rows x ≡ true) × (slice_index keys x ≡ kept)
  pub half : (key : ℕ) → (key ≡ kept → ⊥) → 2 * how_many_have keys key rows ≤ length rows
  pub others : (x : ℕ) → is_in rows x ≡ false → slice_index new x ≡ slice_index old x
  pub same : (x : ℕ) → slice_index keys x ≡ kept → slice_index new x ≡ slice_index old x
  pub from_first : (x : ℕ) → is_in rows x ≡ true → (slice_index keys x ≡ kept → ⊥) → first ≤ slice_index new x
  pub below : (x : ℕ) → is_in rows x ≡ true → (slice_index keys x ≡ kept → ⊥) → slice_index new x < count
  pub joined : (x y : ℕ) → is_in rows x ≡ true → is_in rows y ≡ true → (slice_index keys x ≡ kept → ⊥)
      → slice_index keys x ≡ slice_index keys y → slice_index new x ≡ slice_index new y
  pub apart : (x y : ℕ) → is_in rows x ≡ true → is_in rows y ≡ true → (slice_index keys x ≡ kept → ⊥)
      → (slice_index keys y ≡ kept → ⊥) → slice_index new x ≡ slice_index new y
      → slice_index keys x ≡ slice_index keys y
  pub used : (number : ℕ) → first ≤ number → number < count → Contains new number

-- The rows of the first blocks have numbers by their blocks and keys. The others have those of their
-- blocks.
pub record NumbersParts (p : Parts) (keys : List ℕ) (n : ℕ) (numbers : List ℕ) (count : ℕ) : Type 0 where
  pub len : length numbers ≡ length p.rows
  pub are : AreNumbers count numbers
  pub more : length p.sizes ≤ count
  pub later : (x : ℕ) → x < length p.rows → n ≤ block_of p x → slice_index numbers x ≡ block_of p x
  pub finer : (x y : ℕ) → x < length p.rows → y < length p.rows → slice_index numbers x ≡ slice_index numbers y
      → block_of p x ≡ block_of p y
  pub agrees : (x y : ℕ) → x < length p.rows → y < length p.rows → block_of p x < n
      → slice_index numbers x ≡ slice_index numbers y → slice_index keys x ≡ slice_index keys y
  pub kept : (x y : ℕ) → x < length p.rows → y < length p.rows → block_of p x ≡ block_of p y
      → slice_index keys x ≡ slice_index keys y → slice_index numbers x ≡ slice_index numbers y
  pub new : (x : ℕ) → x < length p.rows
      → (slice_index numbers x ≡ block_of p x)
      ⊎ ((length p.sizes ≤ slice_index numbers x)
      × (2 * how_many numbers (slice_index numbers x) ≤ size_of p (block_of p x)))

-- each row is found at its place
abbrev pub ArePlacesOf : List ℕ → List ℕ → Type 0
ArePlacesOf rows places =
    (row : ℕ) → row < length rows
    → (slice_index places row < length rows) × (slice_index rows (slice_index places row) ≡ row)

-- so many blocks begin at these places, and end where the next begins
pub record IsCut (count : ℕ) (starts : List ℕ) (p : Parts) : Type 0 where
  pub starts_len : length p.starts ≡ count
  pub sizes_len : length p.sizes ≡ count
  pub marks_len : length p.marks ≡ count
  pub starts_at : (block : ℕ) → block < count → slice_index p.starts block ≡ slice_index starts block
  pub sizes_at : (block : ℕ) → block < count
      → slice_index p.sizes block ≡ slice_index starts (block + 1) - slice_index starts block
  pub clear : (block : ℕ) → slice_index p.marks block ≡ 0
