-- Rows with known bytes, which can be written in another byte order.
use Rattle.std.specs.Prelude.{◌≡◌, ℕ, ◌<◌, List, get_or}
use Rattle.rx_wire.specs.declared.order.Order.{Order}
use Rattle.rx_sparse.specs.Parts.{FitsBytes}
use Rattle.rx_sparse.specs.Rows.{no_row, rows_in, rows_text}

-- so many rows stand one behind another, and nothing after them
pub record AreWholeRows (order : Order) (count : ℕ) (bytes : List ℕ) : Type 0 where
  pub stands : bytes ≡ rows_text order (rows_in order count bytes)
  pub fits : (row : ℕ) → row < count → FitsBytes (get_or (rows_in order count bytes) row no_row)
