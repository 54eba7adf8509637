-- What is kept of an expression is kept of its mirror.
use Rattle.rx_spec.proofs.Prelude.{common_steps, ◌≡◌, ℕ, ◌-◌, ◌^◌, min, refl, Some, None, arith, Expression, mirror}
use Rattle.rx_spec.proofs.Prelude.{depth, min_len, IsLoopSafe, rows_count}
use Rattle.rx_lemmas.proofs.Mirrors.{min_len-mirror, IsLoopSafe-mirror}
use Rattle.rx_expr.specs.Expr.{form_of, IsKept}
use Rattle.rx_expr.specs.declared.expr.Form.{Form}
use Rattle.rx_expr.specs.declared.expr.Inner.{Inner}

pub depth-mirror : (e : Expression) → depth (mirror e) ≡ depth e
unfolding depth mirror
depth-mirror (Expression.Concat a b) = let x = depth-mirror a in let y = depth-mirror b in omega arith
depth-mirror (Expression.Alternate a b) = let x = depth-mirror a in let y = depth-mirror b in omega arith
depth-mirror (Expression.Repeat least most greedy body) = let x = depth-mirror body in omega arith
depth-mirror _ = refl

pub rows_count-mirror : (e : Expression) → rows_count (mirror e) ≡ rows_count e
unfolding rows_count mirror
rows_count-mirror (Expression.Concat a b) = let x = rows_count-mirror a in let y = rows_count-mirror b in omega arith
rows_count-mirror (Expression.Alternate a b) = omega (arith, rows_count-mirror a, rows_count-mirror b)
rows_count-mirror (Expression.Repeat least None greedy body) = let x = rows_count-mirror body in rw x refl
rows_count-mirror (Expression.Repeat least (Some most) greedy body) = let x = rows_count-mirror body in rw x refl
rows_count-mirror _ = refl

-- what is kept of a form is kept of the mirrored one
pub record IsKeptOf (f : Form) (kept_len kept_rows kept_depth : ℕ) : Type 0 where
  pub least : kept_len ≡ min (min_len (form_of f)) (2 ^ 64 - 1)
  pub rows : kept_rows ≡ min (rows_count (form_of f)) (2 ^ 31)
  pub depth_is : kept_depth ≡ depth (form_of f)
  pub safe : IsLoopSafe (form_of f)

pub IsKeptOf-mirror : {i : Inner} {f : Form} → IsKept i → form_of f ≡ mirror (form_of i.form)
    → IsKeptOf f i.min_len i.rows i.depth
IsKeptOf-mirror {i} kept is =
    grind (arith, common_steps, min_len-mirror, rows_count-mirror, depth-mirror, IsLoopSafe-mirror)
