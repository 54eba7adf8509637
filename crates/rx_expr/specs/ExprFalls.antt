-- A part of an expression is less deep than the whole.
use Rattle.std.specs.Prelude.{◌≤◌, max}
use Rattle.std.proofs.Common.{arith}
use Rattle.rx_spec.specs.Expressions.{depth}
use Rattle.rx_expr.specs.Expr.{form_of, node_of}
use Rattle.rx_expr.specs.declared.expr.Node.{Node}
use Rattle.rx_expr.specs.declared.expr.Form.{Form}
use Rattle.rx_expr.specs.declared.expr.Expr.TheDeep.{deep-Node, deep-Form}

form_falls : (f : Form) → deep-Form f ≤ depth (form_of f)
unfolding depth
form_falls (Form.Concat a b) = omega arith
form_falls (Form.Alternate a b) = omega arith
form_falls (Form.Repeat least most greedy body) = omega arith

pub node_falls : (n : Node) → max (deep-Node n) 0 ≤ depth (node_of n)
unfolding depth
node_falls Node.Empty = omega arith
node_falls (Node.Class set) = omega arith
node_falls (Node.Look look) = omega arith
node_falls (Node.Inner inner) = let h = form_falls inner.value.form in omega arith
