-- Bytes that a table doesn't tell apart.
use Rattle.std.specs.Prelude.{ℕ, ◌≡◌, ◌<◌, ◌-◌}
use Rattle.rx_spec.specs.Tables.{Table}

-- from every row a byte leads where the byte before it leads
pub record LeadsAsPrevious (t : Table) (byte : ℕ) : Type 0 where
  pub positive : 0 < byte
  pub alike : (row : ℕ) → row < t.size → t.machine.next row byte ≡ t.machine.next row (byte - 1)
