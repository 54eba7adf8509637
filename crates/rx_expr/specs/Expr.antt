-- The expression that an expression of the code means, and what is kept beside it.
use Rattle.std.specs.Prelude.{ℕ, zero, suc, ◌≡◌, ◌-◌, ◌^◌, ◌/◌, ◌<◌, ◌≤◌, min, List, [], ◌∷◌, length}
use Rattle.std.specs.Prelude.{take, drop}
use Rattle.rx_spec.specs.Bytes.{only}
use Rattle.rx_spec.specs.Expressions.{Expression, IsLoopSafe}
pub use Rattle.rx_spec.specs.Expressions.{min_len, depth}
pub use Rattle.rx_spec.specs.Rows.{rows_count}
use Rattle.rx_expr.specs.declared.expr.Node.{Node}
use Rattle.rx_expr.specs.declared.expr.ExprKind.{ExprKind}
use Rattle.rx_expr.specs.declared.expr.Form.{Form}
use Rattle.rx_expr.specs.declared.expr.Inner.{Inner}

abbrev pub form_of : Form → Expression
form_of (Form.Concat a b) = Expression.Concat a b
form_of (Form.Alternate a b) = Expression.Alternate a b
form_of (Form.Repeat least most greedy body) = Expression.Repeat least most greedy body

abbrev pub node_of : Node → Expression
node_of Node.Empty = Expression.Empty
node_of (Node.Class set) = Expression.Class set
node_of (Node.Look look) = Expression.Look look
node_of (Node.Inner inner) = form_of inner.value.form

-- what is kept beside a form: the least length and the number of rows, each up to a limit, and the depth
pub record IsKept (inner : Inner) : Type 0 where
  pub min_len : inner.min_len ≡ min (min_len (form_of inner.form)) (2 ^ 64 - 1)
  pub rows : inner.rows ≡ min (rows_count (form_of inner.form)) (2 ^ 31)
  pub depth : inner.depth ≡ depth (form_of inner.form)
  pub shallow : inner.depth ≤ 200
  pub safe : IsLoopSafe (form_of inner.form)

abbrev pub IsSound : Node → Type 0
IsSound (Node.Inner inner) = IsKept inner.value
IsSound _ = Unit {0}

-- half of the bytes, and the rest: a literal is the concatenation of both, at most so deep
unfoldable pub literal_within : ℕ → List ℕ → Expression
literal_within zero bytes = Expression.Empty
literal_within (suc n) [] = Expression.Empty
literal_within (suc n) (byte ∷ []) = Expression.Class (only byte)
literal_within (suc n) (byte ∷ (next ∷ bytes)) =
    let all = byte ∷ (next ∷ bytes) in
    let half = length all / 2 in
    Expression.Concat (literal_within n (take half all)) (literal_within n (drop half all))

-- the bytes one after another
abbrev pub literal_of : List ℕ → Expression
literal_of bytes = literal_within (length bytes) bytes

-- an expression taken apart is that expression
abbrev pub kind_of : ExprKind → Expression
kind_of ExprKind.Empty = Expression.Empty
kind_of (ExprKind.Class set) = Expression.Class set
kind_of (ExprKind.Look look) = Expression.Look look
kind_of (ExprKind.Concat a b) = Expression.Concat a.now b.now
kind_of (ExprKind.Alternate a b) = Expression.Alternate a.now b.now
kind_of (ExprKind.Repeat least most greedy body) = Expression.Repeat least most greedy body.now

-- each of its parts is less deep than so much
abbrev pub HasPartsBelow : ℕ → ExprKind → Type 0
HasPartsBelow bound (ExprKind.Concat a b) = (depth a.now < bound) × (depth b.now < bound)
HasPartsBelow bound (ExprKind.Alternate a b) = (depth a.now < bound) × (depth b.now < bound)
HasPartsBelow bound (ExprKind.Repeat least most greedy body) = depth body.now < bound
HasPartsBelow bound _ = Unit {0}
