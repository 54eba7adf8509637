-- The rows of one expression: the construction of Thompson (Regular expression search algorithm, 1968), with
-- a fixed numbering, and with an order between the two ways of a Split, as in Pike's and Cox's virtual
-- machines.
use Rattle.std.specs.Prelude.{ℕ, zero, suc, ◌+◌, ◌-◌, ◌*◌, Bool, true, false, Option, Some, None, List, [], ◌∷◌, ◌++◌}
use Rattle.std.specs.Prelude.{length}
use Rattle.rx_spec.specs.Expressions.{Expression}
use Rattle.rx_spec.specs.declared.Look.{Look as Assertion}

-- a row of an NFA
pub data Row : Type 0 where
  -- reads a byte of the set
  Bytes : (set : ℕ) → (next : ℕ) → Row
  -- goes on at both, the first preferred, and reads nothing
  Split : (first : ℕ) → (second : ℕ) → Row
  -- goes on where the assertion holds
  Look : (look : Assertion) → (next : ℕ) → Row
  -- a match of a pattern
  Match : (pattern : ℕ) → Row
  Fail : Row

-- where a part of an NFA is entered, and its rows, numbered from a base on
pub record Part : Type 0 where
  pub entry : ℕ
  pub rows : List Row

-- Rows that are made for an entry after them, `next`. The first number is that of the first row made.
abbrev pub Maker : Type 0
Maker = ℕ → ℕ → Part

-- nothing
abbrev pub straight : Maker
straight base next = record { entry = next; rows = [] }

-- one row
abbrev pub row_to : (ℕ → Row) → Maker
row_to row base next = record { entry = base; rows = row next ∷ [] }

-- the second is made first, and the first leads to it
abbrev pub chained : Maker → Maker → Maker
chained first second base next =
    let after = second base next in
    let before = first (base + length after.rows) after.entry in
    record { entry = before.entry; rows = after.rows ++ before.rows }

-- both, and then a Split of the two
abbrev pub either : Maker → Maker → Maker
either first second base next =
    let a = first base next in
    let b = second (base + length a.rows) next in
    record { entry = base + length a.rows + length b.rows; rows = a.rows ++ b.rows ++ (Split a.entry b.entry ∷ []) }

-- a Split of a body and what comes after it: the greedy have the body first
abbrev pub choice : Bool → ℕ → ℕ → Row
choice true body next = Split body next
choice false body next = Split next body

-- n copies, the last made first
unfoldable pub copies : ℕ → Maker → Maker
copies zero body = straight
copies (suc n) body = chained (copies n body) body

-- n optional rounds, the last made first: the body, then a Split of it and what comes after them all
unfoldable pub optional : Bool → ℕ → Maker → Maker
optional greedy zero body base next = record { entry = next; rows = [] }
optional greedy (suc n) body base next =
    let inner = optional greedy n body base next in
    let round = body (base + length inner.rows) inner.entry in
    let split = choice greedy round.entry next in
    record { entry = base + length inner.rows + length round.rows; rows = inner.rows ++ round.rows ++ (split ∷ []) }

-- a Split first, which the body leads back to
abbrev pub loop : Bool → Maker → Maker
loop greedy body base next =
    let round = body (base + 1) base in
    record { entry = base; rows = choice greedy round.entry next ∷ round.rows }

abbrev pub repeated : ℕ → Option ℕ → Bool → Maker → Maker
repeated least None greedy body = chained (copies least body) (loop greedy body)
repeated least (Some most) greedy body = chained (copies least body) (optional greedy (most - least) body)

-- an expression's rows
unfoldable pub compile : Expression → Maker
compile Expression.Empty = straight
compile (Expression.Class set) = row_to (Bytes set)
compile (Expression.Look look) = row_to (Look look)
compile (Expression.Concat a b) = chained (compile a) (compile b)
compile (Expression.Alternate a b) = either (compile a) (compile b)
compile (Expression.Repeat least most greedy body) = repeated least most greedy (compile body)

-- how many rows that are
abbrev pub repeated_count : ℕ → Option ℕ → ℕ → ℕ
repeated_count least None r = (least + 1) * r + 1
repeated_count least (Some most) r = least * r + (most - least) * (r + 1)

unfoldable pub rows_count : Expression → ℕ
rows_count Expression.Empty = 0
rows_count (Expression.Class set) = 1
rows_count (Expression.Look look) = 1
rows_count (Expression.Concat a b) = rows_count a + rows_count b
rows_count (Expression.Alternate a b) = rows_count a + rows_count b + 1
rows_count (Expression.Repeat least most greedy body) = repeated_count least most (rows_count body)
