-- A table that can be minimized, and the blocks of its rows.
use Rattle.std.specs.Prelude.{ℕ, ◌<◌, All, List, length}
use Rattle.rx_dense.specs.Layouts.{AreRows, AreStarts, Layout, table_of}
use Rattle.rx_order.specs.RowOrder.{IsInOrder, IsPlain}
use Rattle.rx_minimize.specs.Blocks.{AreBlocks}

-- a table in order without accelerated rows and universal starts, with the number of its block for each row
pub record IsPartitioned (l : Layout) (blocks : List ℕ) : Type 0 where
  pub in_order : IsInOrder l
  pub plain : IsPlain l
  pub rows : AreRows l
  pub starts : AreStarts l
  pub are_blocks : AreBlocks (table_of l) blocks
  pub below : All (λ block. block < length blocks) blocks
