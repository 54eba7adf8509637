-- Rows that move one after another and are then renamed.
use Rattle.std.specs.Prelude.{ℕ, ◌≡◌, ◌<◌, ◌+◌, ◌*◌, List, length, slice_index}
use Rattle.std.specs.List.{range_with_len}
use Rattle.std.specs.List.Sorted.{IsPermutation}
use Rattle.rx_dense.specs.Builder.{IsMachineRenamed, renamed}
use Rattle.rx_dense.specs.Layouts.{Layout, ids_of, row_count, stride}

-- One list has the row that lies at each place, the other has for each row the id of its place.
pub record AreUnmoved (l : Layout) (lying ids : List ℕ) : Type 0 where
  pub rows : lying ≡ range_with_len 0 (row_count l)
  pub places : ids ≡ ids_of l

-- the place where a row lies
pub record LiesAt (width : ℕ) (lying ids : List ℕ) (row : ℕ) : Type 0 where
  pub place : ℕ
  pub below : place < length lying
  pub id : slice_index ids row ≡ place * width
  pub there : slice_index lying place ≡ row

-- Rows lie at other places, and lead where they led.
pub record AreMoved (old now : Layout) (lying ids : List ℕ) : Type 0 where
  pub rest : now ≡ record old { words = now.words }
  pub count : length now.words ≡ length old.words
  pub places : length lying ≡ row_count old
  pub permutation : IsPermutation (ids_of old) ids
  pub rows : (place : ℕ) → place < row_count old
      → (slice_index lying place < row_count old) × (slice_index ids (slice_index lying place) ≡ place * stride old)
  pub lies : (row : ℕ) → row < row_count old → LiesAt (stride old) lying ids row
  pub words : (place column : ℕ) → place < row_count old → column < stride old
      → slice_index now.words (place * stride old + column)
      ≡ slice_index old.words (slice_index lying place * stride old + column)

-- A list has the row that lies at each place now, and what led to a row leads to its place.
pub record IsReordered (rows : List ℕ) (old new : Layout) : Type 0 where
  pub now : Layout
  pub lying : List ℕ
  pub ids : List ℕ
  pub moved : AreMoved old now lying ids
  pub there : (place : ℕ) → place < row_count old → slice_index lying place ≡ slice_index rows place
  pub is : new ≡ renamed now ids
  pub machine : IsMachineRenamed now new ids
