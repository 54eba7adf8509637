-- A partition into rows with equal labels.
use Rattle.std.specs.Prelude.{ℕ, ◌≡◌, ◌<◌, List, length, slice_index}
use Rattle.rx_refine.specs.Parts.{Parts, IsPartition, block_of}

pub record IsByLabel (labels : List ℕ) (p : Parts) : Type 0 where
  pub partition : IsPartition p
  pub rows_len : length p.rows ≡ length labels
  pub clear : (block : ℕ) → slice_index p.marks block ≡ 0
  pub labelled : (x y : ℕ) → x < length labels → y < length labels → block_of p x ≡ block_of p y
      → slice_index labels x ≡ slice_index labels y
  pub together : (x y : ℕ) → x < length labels → y < length labels → slice_index labels x ≡ slice_index labels y
      → block_of p x ≡ block_of p y
