-- Writing parts one after another.
use Rattle.std.specs.Prelude.{ℕ, List, ◌++◌}
use Rattle.rx_wire.specs.Fields.{Stands}

-- A part was written at a place: whatever text stood before it, the text and the part stand up to the end.
pub record IsPut (part old new : List ℕ) (at end : ℕ) : Type 0 where
  pub stands : (text before : List ℕ) → Stands text before old at → Stands (text ++ part) before new end
