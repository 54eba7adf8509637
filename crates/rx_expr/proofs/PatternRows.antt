-- The rows of all patterns: each pattern's Match row and its expression's rows, one pattern after another.
use Rattle.rx_spec.proofs.Prelude.{common_steps, ◌≡◌, ℕ, suc, ◌+◌, ◌^◌, ◌≤◌, List, [], ◌∷◌, ◌++◌, length, map, drop}
use Rattle.rx_spec.proofs.Prelude.{min, refl, ◌∙◌, ap, arith, append_assoc, length-append, All, map-append, sum_by-cons}
use Rattle.rx_spec.proofs.Prelude.{Expression, IsLoopSafe, compile, rows_count, patterns_from, read_as}
use Rattle.rx_spec.specs.Nfas.{Patterns}
use Rattle.rx_spec.specs.Rows as spec
use Rattle.rx_spec.specs.declared.Direction.{Direction}
use Rattle.rx_expr.specs.Compiles.{Adds, AddsPatterns, maker, patterns_count, patterns_of}
use Rattle.rx_expr.specs.Nfa.{row_of}
use Rattle.rx_expr.specs.declared.thompson.nfa.Row.{Row}
use Rattle.rx_expr.proofs.ExpressionRows.{maker_makes}

-- how many rows some expressions have, up to a limit, and that they are safe
pub record Counted (exprs : List Expression) (rows : ℕ) : Type 0 where
  pub value : rows ≡ min (patterns_count exprs) (2 ^ 31)
  pub safe : All IsLoopSafe exprs

patterns_count-cons : (e : Expression) (es : List Expression)
    → patterns_count (e ∷ es) ≡ 1 + rows_count e + patterns_count es
patterns_count-cons e es = sum_by-cons (λ x. 1 + rows_count x) e es

pub length-le-patterns_count : (es : List Expression) → length es ≤ patterns_count es
length-le-patterns_count [] = omega arith
length-le-patterns_count (e ∷ es) =
    let h = length-le-patterns_count es in
    omega (arith, patterns_count-cons e es)

-- ---- one pattern after another

-- the patterns from the k-th on, whose rows stand from a base on
abbrev left : Direction → List Expression → ℕ → ℕ → Patterns
left direction exprs k base = patterns_from base k (map (read_as direction) (drop k exprs))

-- the rows and starts so far, and those of the expressions that are left
pub record Going (direction : Direction) (exprs : List Expression) (k : ℕ) (rows : List Row) (starts : List ℕ)
    : Type 0 where
  pub rows_are : map row_of rows ++ (left direction exprs k (length rows)).rows ≡ (patterns_of direction exprs).rows
  pub starts_are : starts ++ (left direction exprs k (length rows)).entries ≡ (patterns_of direction exprs).entries
  pub room : length rows + patterns_count (drop k exprs) ≡ patterns_count exprs

pub going_more : {direction : Direction} {exprs : List Expression} {rows accepted made : List Row} {starts : List ℕ}
    {e : Expression} {start : ℕ} (k : ℕ) (row : Row) → Going direction exprs k rows starts
    → drop k exprs ≡ e ∷ drop (k + 1) exprs → row_of row ≡ spec.Match k → accepted ≡ rows ++ (row ∷ [])
    → Adds (maker direction e) accepted made (length rows) start
    → Going direction exprs (k + 1) made (starts ++ (start ∷ []))
unfolding patterns_from
going_more {direction} {exprs} {rows} {accepted} {made} {starts} {e} {start} k row going split is pushed added =
    grind (arith, common_steps, length-append, map-append, append_assoc, maker_makes)

-- all patterns were added
pub going_last : {direction : Direction} {exprs : List Expression} {k : ℕ} {rows : List Row} {starts : List ℕ}
    → Going direction exprs k rows starts → length exprs ≤ k → AddsPatterns direction exprs rows starts
unfolding patterns_from
going_last {direction} {exprs} {k} {rows} {starts} going h = grind (arith, common_steps)

-- ---- how many rows and starts that are

pub length-patterns : (direction : Direction) (es : List Expression) (base k : ℕ)
    → length (patterns_from base k (map (read_as direction) es)).rows ≡ patterns_count es
unfolding patterns_from
length-patterns direction [] base k = refl
length-patterns direction (e ∷ es) base k =
    let part = compile (read_as direction e) (base + 1) base in
    let after = base + 1 + length part.rows in
    let others = patterns_from after (k + 1) (map (read_as direction) es) in
    omega (
      arith,
      patterns_count-cons e es,
      length-append part.rows others.rows,
      length-patterns direction es after (k + 1),
      maker_makes direction e (base + 1) base,
    )

pub length-entries : (direction : Direction) (es : List Expression) (base k : ℕ)
    → length (patterns_from base k (map (read_as direction) es)).entries ≡ length es
unfolding patterns_from
length-entries direction [] base k = refl
length-entries direction (e ∷ es) base k =
    let part = compile (read_as direction e) (base + 1) base in
    ap suc (length-entries direction es (base + 1 + length part.rows) (k + 1))

pub length-added_patterns : {direction : Direction} {es : List Expression} {rows : List Row} {starts : List ℕ}
    → AddsPatterns direction es rows starts → length rows ≡ patterns_count es
length-added_patterns {direction} {es} {rows} added = grind (arith, common_steps, length-patterns)

pub length-starts : {direction : Direction} {es : List Expression} {rows : List Row} {starts : List ℕ}
    → AddsPatterns direction es rows starts → length starts ≡ length es
length-starts {direction} {es} added = ap length added.starts_are ∙ length-entries direction es 0 0
