-- A partition of rows into blocks, kept as ranges of one permuted list.
use Rattle.std.specs.Prelude.{ℕ, ◌≡◌, ◌<◌, ◌≤◌, ◌+◌, ◌*◌, ◌^◌, ◌⊎◌, Bool, true, cond, List, [], ◌∷◌, ◌++◌, length}
use Rattle.std.specs.Prelude.{slice_index, slice_set, Contains, ltb, leb, eqb, ◌&&◌}
use Rattle.std.specs.List.{list_any}

-- the lists that a partition keeps
pub record Parts : Type 0 where
  pub rows : List ℕ
  pub places : List ℕ
  pub blocks : List ℕ
  pub starts : List ℕ
  pub sizes : List ℕ
  pub marks : List ℕ

abbrev pub block_of : Parts → ℕ → ℕ
block_of p row = slice_index p.blocks row

abbrev pub size_of : Parts → ℕ → ℕ
size_of p block = slice_index p.sizes block

-- whether a row is marked: it stands among the first rows of its block
abbrev pub is_marked : Parts → ℕ → Bool
is_marked p row =
    ltb (slice_index p.places row) (slice_index p.starts (block_of p row) + slice_index p.marks (block_of p row))

-- whether a row is among those of a list
abbrev pub is_in : List ℕ → ℕ → Bool
is_in rows row = list_any (eqb row) rows

-- each row stands at one place, and at each place stands one row
pub record ArePermuted (rows places : List ℕ) : Type 0 where
  pub few : length rows ≤ 2 ^ 31
  pub places_len : length places ≡ length rows
  pub row_at : (place : ℕ) → place < length rows → slice_index rows place < length rows
  pub place_of_row : (place : ℕ) → place < length rows → slice_index places (slice_index rows place) ≡ place
  pub place_at : (row : ℕ) → row < length rows → slice_index places row < length rows
  pub row_of_place : (row : ℕ) → row < length rows → slice_index rows (slice_index places row) ≡ row

-- the blocks are ranges of the permuted rows, none of them empty, and each row's block is the range
-- in which it stands
pub record IsPartition (p : Parts) : Type 0 where
  pub permuted : ArePermuted p.rows p.places
  pub blocks_len : length p.blocks ≡ length p.rows
  pub starts_len : length p.starts ≡ length p.sizes
  pub marks_len : length p.marks ≡ length p.sizes
  pub block_at : (row : ℕ) → row < length p.rows → block_of p row < length p.sizes
  pub from_start : (row : ℕ) → row < length p.rows → slice_index p.starts (block_of p row) ≤ slice_index p.places row
  pub to_end : (row : ℕ) → row < length p.rows
      → slice_index p.places row < slice_index p.starts (block_of p row) + size_of p (block_of p row)
  pub within : (block : ℕ) → block < length p.sizes → slice_index p.starts block + size_of p block ≤ length p.rows
  pub some : (block : ℕ) → block < length p.sizes → 0 < size_of p block
  pub marked : (block : ℕ) → block < length p.sizes → slice_index p.marks block ≤ size_of p block
  pub in_block : (block place : ℕ) → block < length p.sizes → slice_index p.starts block ≤ place
      → place < slice_index p.starts block + size_of p block → block_of p (slice_index p.rows place) ≡ block

-- a block with a marked row is in the list
abbrev pub AreTouched : Parts → List ℕ → Type 0
AreTouched p touched = (block : ℕ) → 0 < slice_index p.marks block → Contains touched block

-- one more row is marked, unless it is alone in its block, and the blocks stay
pub record MarksRow (old : Parts) (row : ℕ) (new : Parts) : Type 0 where
  pub partition : IsPartition new
  pub rows_len : length new.rows ≡ length old.rows
  pub blocks : new.blocks ≡ old.blocks
  pub sizes : new.sizes ≡ old.sizes
  pub marks : (other : ℕ) → other < length old.rows → 1 < size_of old (block_of old other)
      → is_marked new other ≡ cond (eqb other row) true (is_marked old other)
  pub alone : (block : ℕ) → size_of old block ≡ 1 → slice_index new.marks block ≡ slice_index old.marks block

-- a block is split into its marked rows and the others. The smaller part has a new number
pub record SplitsBlock (old : Parts) (block : ℕ) (new : Parts) : Type 0 where
  pub partition : IsPartition new
  pub rows_len : length new.rows ≡ length old.rows
  pub more : length old.sizes ≤ length new.sizes
  pub finer : (x y : ℕ) → x < length old.rows → y < length old.rows → block_of new x ≡ block_of new y
      → block_of old x ≡ block_of old y
  pub agrees : (x y : ℕ) → x < length old.rows → y < length old.rows → block_of new x ≡ block_of new y
      → block_of old x ≡ block → is_marked old x ≡ is_marked old y
  pub kept : (x y : ℕ) → x < length old.rows → y < length old.rows → block_of old x ≡ block_of old y
      → (block_of old x ≡ block → is_marked old x ≡ is_marked old y) → block_of new x ≡ block_of new y
  pub numbers : (x : ℕ) → x < length old.rows
      → ((block_of new x ≡ block_of old x) × (size_of new (block_of old x) ≤ size_of old (block_of old x)))
      ⊎ ((block_of old x ≡ block) × (length old.sizes ≤ block_of new x)
      × (2 * size_of new (block_of new x) ≤ size_of old block))
  pub others : (x : ℕ) → x < length old.rows → (block_of old x ≡ block → ⊥) → is_marked new x ≡ is_marked old x
  pub unmarked : slice_index new.marks block ≡ 0
  pub other_marks : (other : ℕ) → (other ≡ block → ⊥) → slice_index new.marks other ≡ slice_index old.marks other

-- The blocks are split into finer ones. A row keeps the number of its block, or has a new number and is in
-- a block with at most half of the rows.
pub record Refines (old new : Parts) : Type 0 where
  pub partition : IsPartition new
  pub rows_len : length new.rows ≡ length old.rows
  pub more : length old.sizes ≤ length new.sizes
  pub finer : (x y : ℕ) → x < length old.rows → y < length old.rows → block_of new x ≡ block_of new y
      → block_of old x ≡ block_of old y
  pub numbers : (x : ℕ) → x < length old.rows
      → ((block_of new x ≡ block_of old x) × (size_of new (block_of old x) ≤ size_of old (block_of old x)))
      ⊎ ((length old.sizes ≤ block_of new x) × (2 * size_of new (block_of new x) ≤ size_of old (block_of old x)))
  pub clear : (block : ℕ) → slice_index new.marks block ≡ 0

-- each block is split into its rows among `hits` and the others
pub record SplitsBy (old : Parts) (hits : List ℕ) (new : Parts) : Type 0 where
  pub refines : Refines old new
  pub agrees : (x y : ℕ) → x < length old.rows → y < length old.rows → block_of new x ≡ block_of new y
      → is_in hits x ≡ is_in hits y
  pub kept : (x y : ℕ) → x < length old.rows → y < length old.rows → block_of old x ≡ block_of old y
      → is_in hits x ≡ is_in hits y → block_of new x ≡ block_of new y

-- each block is split into its rows with equal keys
pub record SplitsByKey (old : Parts) (keys : List ℕ) (new : Parts) : Type 0 where
  pub refines : Refines old new
  pub agrees : (x y : ℕ) → x < length old.rows → y < length old.rows → block_of new x ≡ block_of new y
      → slice_index keys x ≡ slice_index keys y
  pub kept : (x y : ℕ) → x < length old.rows → y < length old.rows → block_of old x ≡ block_of old y
      → slice_index keys x ≡ slice_index keys y → block_of new x ≡ block_of new y

-- a range of rows is a new block, the last one
pub record AddsBlock (old : Parts) (start size : ℕ) (new : Parts) : Type 0 where
  pub rows : new.rows ≡ old.rows
  pub places : new.places ≡ old.places
  pub starts : new.starts ≡ old.starts ++ start ∷ []
  pub sizes : new.sizes ≡ old.sizes ++ size ∷ []
  pub marks : new.marks ≡ old.marks ++ 0 ∷ []
  pub blocks_len : length new.blocks ≡ length old.blocks
  pub blocks : (row : ℕ) → row < length old.rows
      → block_of new row
      ≡ cond (leb start (slice_index old.places row) && ltb (slice_index old.places row) (start + size))
      (length old.sizes) (block_of old row)

-- the rows at two places exchanged: `row` stands at `place` at first, and at `front` in the end
abbrev pub swapped : Parts → ℕ → ℕ → ℕ → Parts
swapped p row place front =
    record p {
      rows =
          slice_set (slice_set p.rows place (slice_index p.rows front)) front row;
      places =
          slice_set (slice_set p.places (slice_index p.rows front) place) row front;
    }
