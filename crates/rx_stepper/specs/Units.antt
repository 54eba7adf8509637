-- The units that stand for the columns of a table.
use Rattle.std.specs.Prelude.{ℕ, List, [], ◌∷◌, ◌++◌}
use Rattle.rx_spec.specs.Bytes.{eoi}
use Rattle.rx_spec.specs.Classes.{representatives}
use Rattle.rx_base.specs.ByteClasses.{ends_of}

-- the least byte of each class, and the end mark
abbrev pub units_of : List ℕ → List ℕ
units_of classes = representatives (ends_of classes) ++ eoi ∷ []
