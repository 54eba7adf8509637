-- Units that two tables don't tell apart.
use Rattle.std.specs.Prelude.{ℕ, ◌≡◌, ◌<◌, List, All, Contains}
use Rattle.rx_spec.specs.Tables.{Table}
use Rattle.rx_spec.specs.declared.Unit.{Unit}
use Rattle.rx_base.specs.Unit.{unit_number}

-- from every row of either table two units lead to one row
pub record LeadAlike (t u : Table) (unit other : ℕ) : Type 0 where
  pub first : (row : ℕ) → row < t.size → t.machine.next row unit ≡ t.machine.next row other
  pub second : (row : ℕ) → row < u.size → u.machine.next row unit ≡ u.machine.next row other

-- some unit of a list leads as a unit does
pub record IsRepresented (t u : Table) (units : List Unit) (unit : ℕ) : Type 0 where
  pub one : Unit
  pub listed : Contains units one
  pub alike : LeadAlike t u unit (unit_number one)

-- for each of the 257 units there is one in a list of units that leads as it does
pub record Represent (t u : Table) (units : List Unit) : Type 0 where
  pub are_units : All (λ unit. unit_number unit < 257) units
  pub each : (unit : ℕ) → unit < 257 → IsRepresented t u units unit
