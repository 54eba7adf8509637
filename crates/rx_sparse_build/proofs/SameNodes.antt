-- The test of two nodes decides whether they are one.
use Rattle.rx_spec.proofs.Prelude.{arith, ◌≡◌, ℕ, ◌==◌, Bool, true, false, refl, ap, common_steps, and_from, and_parts}
use Rattle.rx_spec.proofs.Prelude.{cases_eq, eq-eqb, false_from_ne_true, ne_eqb, not-true, or_parts, bytes_eq-Decides}
use Rattle.rx_spec.proofs.Prelude.{Node, dead, is_dead, differ, same_node}
use Rattle.std.proofs.lemmas.Bool.{or_from, not_from_false}
use Rattle.rx_lemmas.proofs.Classes.{same_tests}

-- ---- nodes that pass are one

pub node_one : (x y : Node) → same_node x y ≡ true → x ≡ y
node_one Node.Quit Node.Quit e = refl
node_one Node.Quit (Node.Running t) e = absurd (cc)
node_one (Node.Running s) Node.Quit e = absurd (cc)
node_one (Node.Running s) (Node.Running t) e =
    ap Node.Running (grind (arith, common_steps, and_parts, bytes_eq-Decides, or_parts, not-true, same_tests))

-- ---- and each passes with itself

-- in turn again
no_difference : (a : Bool) → differ a a ≡ false
no_difference true = refl
no_difference false = refl

node_same : (x : Node) → same_node x x ≡ true
node_same Node.Quit = refl
node_same (Node.Running s) =
    grind (arith, common_steps, and_from, bytes_eq-Decides, not_from_false, or_from, no_difference)

-- ---- nodes by numbers

-- Where different numbers have different nodes, the test of the nodes is that of the numbers.
pub same_numbers : (x y : ℕ) (m n : Node) → (x ≡ y → m ≡ n) → (m ≡ n → x ≡ y) → same_node m n ≡ (x == y)
same_numbers x y m n there back =
    grind (arith, common_steps, node_same, eq-eqb, false_from_ne_true, node_one, ne_eqb, cases_eq)

-- Of a dead node and one that isn't, none is the other.
pub dead_apart : (n : Node) → is_dead n ≡ false → same_node dead n ≡ false
dead_apart n alive = grind (arith, common_steps, false_from_ne_true, node_one)
