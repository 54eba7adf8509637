-- The quit bytes of an image.
use Rattle.std.specs.Prelude.{ℕ, ◌+◌, ◌*◌, ◌/◌, ◌%◌, ◌^◌, List, ◌++◌, Result, Ok}
use Rattle.std.specs.Int.{w128}
use Rattle.rx_wire.specs.declared.order.Order.{Order}
use Rattle.rx_wire.specs.Kinds.{Kind, ◌>>=◌}
use Rattle.rx_wire.specs.Fields.{field, number_at}

-- a bit for each byte, in two halves
abbrev pub quit_text : Order → ℕ → List ℕ
quit_text order quit = field order w128 (quit % 2 ^ 128) ++ field order w128 (quit / 2 ^ 128)

unfoldable pub quit_at : Order → List ℕ → Result (ℕ × List ℕ) Kind
quit_at order bytes = do
  low ← number_at order w128 bytes
  high ← number_at order w128 low.1
  Ok (high.0 * 2 ^ 128 + low.0, high.1)
