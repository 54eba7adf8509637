-- NFAs whose paths that read nothing are short.
use Rattle.std.specs.Prelude.{ℕ, zero, suc, ◌+◌, ◌*◌, List, length}
use Rattle.rx_spec.specs.Rows.{Row}
use Rattle.rx_spec.specs.States.{row_at}

-- what is asked of the rows to which a row leads without reading a byte
abbrev pub AllNext : (ℕ → Type 0) → Row → Type 0
AllNext P (Row.Bytes set next) = Unit {0}
AllNext P (Row.Split first second) = P first × P second
AllNext P (Row.Look look next) = P next
AllNext P (Row.Match pattern) = Unit {0}
AllNext P Row.Fail = Unit {0}

-- Paths from a row that read nothing have fewer than n steps.
unfoldable pub Short : List Row → ℕ → ℕ → Type 0
Short rows zero q = ⊥
Short rows (suc n) q = AllNext (λ p. Short rows n p) (row_at rows q)

-- From every row they are as short as a closure asks.
pub record IsShallow (rows : List Row) : Type 0 where
  pub short : (q : ℕ) → Short rows (length rows * length rows + 1) q
