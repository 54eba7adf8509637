-- What an automaton reads, as the number that the definitions know it by.
use Rattle.std.specs.Prelude.{ℕ}
use Rattle.rx_spec.specs.Bytes.{eoi}
use Rattle.rx_spec.specs.declared.Unit.{Unit}

abbrev pub unit_number : Unit → ℕ
unit_number (Unit.Byte byte) = byte
unit_number Unit.Eoi = eoi
