-- The textbook meaning of an expression with no order: from which place to which it matches.
use Rattle.std.specs.Prelude.{◌≡◌, ℕ, zero, suc, ◌+◌, ◌≤◌, ◌⊎◌, true, Option, Some, None}
use Rattle.rx_spec.specs.Bytes.{contains}
use Rattle.rx_spec.specs.Looks.{Reading, after, holds_at}
use Rattle.rx_spec.specs.Expressions.{Expression}

-- a byte that is there and in the set
abbrev pub IsIn : ℕ → Option ℕ → Type 0
IsIn set None = ⊥
IsIn set (Some byte) = contains set byte ≡ true

-- so many rounds of a body, one after the other
abbrev pub Rounds : (ℕ → ℕ → Type 0) → ℕ → ℕ → ℕ → Type 0
Rounds R zero i j = i ≡ j
Rounds R (suc n) i j = (k : ℕ) × R i k × Rounds R n k j

-- a number of rounds that a bound allows
abbrev pub IsAllowed : Option ℕ → ℕ → Type 0
IsAllowed None n = Unit {0}
IsAllowed (Some most) n = n ≤ most

-- a match from i to j
abbrev pub Reaches : Reading → Expression → ℕ → ℕ → Type 0
Reaches r Expression.Empty i j = i ≡ j
Reaches r (Expression.Class set) i j = (j ≡ i + 1) × IsIn set (after r.units i)
Reaches r (Expression.Look look) i j = (i ≡ j) × (holds_at r look i ≡ true)
Reaches r (Expression.Concat a b) i j = (k : ℕ) × Reaches r a i k × Reaches r b k j
Reaches r (Expression.Alternate a b) i j = Reaches r a i j ⊎ Reaches r b i j
Reaches r (Expression.Repeat least most greedy body) i j =
    (n : ℕ) × (least ≤ n) × IsAllowed most n × Rounds (Reaches r body) n i j
