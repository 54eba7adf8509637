-- Literals: the halves joined are the whole, and none is too deep.
use Rattle.rx_spec.proofs.Prelude.{common_steps, ◌≡◌, ℕ, zero, suc, ◌+◌, ◌-◌, ◌/◌, ◌*◌, ◌^◌, ◌<◌, ◌≤◌, List, [], ◌∷◌}
use Rattle.rx_spec.proofs.Prelude.{length, take, drop, refl, arith, ap, length-drop, length-take, subst, Result, Ok}
use Rattle.rx_spec.proofs.Prelude.{Err, IfErr, ap₂, Expression, depth}
use Rattle.std.proofs.Math.Nat.{pow-suc}
use Rattle.rx_expr.specs.Expr.{literal_within, literal_of}
use Rattle.rx_expr.specs.ExprError.{RefusesJoin}
use Rattle.rx_expr.specs.declared.expr.ExprError.{ExprError}

-- the first half, rounded down, and the rest
abbrev front_of : {X : Type 0} → List X → List X
front_of xs = take (length xs / 2) xs

abbrev back_of : {X : Type 0} → List X → List X
back_of xs = drop (length xs / 2) xs

halves : {X : Type 0} (xs : List X) (n : ℕ) → length xs ≤ n + 1 → 2 ≤ length xs
    → (length (front_of xs) ≤ n) × (length (back_of xs) ≤ n)
halves xs n h two = (simp length-take (omega arith), simp length-drop (omega arith))

-- more depth than there are bytes changes nothing
literal_enough : (n m : ℕ) (bytes : List ℕ) → length bytes ≤ n → length bytes ≤ m
    → literal_within n bytes ≡ literal_within m bytes
unfolding literal_within
literal_enough zero (suc m) (byte ∷ bytes) h k = absurd (omega arith)
literal_enough (suc n) zero (byte ∷ bytes) h k = absurd (omega arith)
literal_enough zero zero bytes h k = refl
literal_enough zero (suc m) [] h k = refl
literal_enough (suc n) zero [] h k = refl
literal_enough (suc n) (suc m) [] h k = refl
literal_enough (suc n) (suc m) (byte ∷ []) h k = refl
literal_enough (suc n) (suc m) (byte ∷ (next ∷ bytes)) h k =
    let all : List ℕ = byte ∷ (next ∷ bytes) in
    let a = halves all n (omega arith) (omega arith) in
    let b = halves all m (omega arith) (omega arith) in
    let front = literal_enough n m (front_of all) a.0 b.0 in
    let back = literal_enough n m (back_of all) a.1 b.1 in
    ap₂ Expression.Concat front back

-- a literal of at least two bytes is its halves
literal_halves : (bytes : List ℕ) → 2 ≤ length bytes
    → literal_of bytes ≡ Expression.Concat (literal_of (front_of bytes)) (literal_of (back_of bytes))
unfolding literal_within
literal_halves [] h = absurd (omega arith)
literal_halves (byte ∷ []) h = absurd (omega arith)
literal_halves (byte ∷ (next ∷ bytes)) h = grind (arith, common_steps, literal_enough)

half_below : (n p : ℕ) → n ≤ p * 2 → (n / 2 ≤ p) × (n - n / 2 ≤ p)
half_below n p h = (omega arith, omega arith)

-- 2 ^ k bytes need no more than k concatenations in one another
depth-literal : (k n : ℕ) (bytes : List ℕ) → length bytes ≤ 2 ^ k → depth (literal_within n bytes) ≤ k + 1
unfolding literal_within depth
depth-literal k zero bytes h = omega arith
depth-literal k (suc n) [] h = omega arith
depth-literal k (suc n) (byte ∷ []) h = omega arith
depth-literal zero (suc n) (byte ∷ (next ∷ bytes)) h = absurd (omega arith)
depth-literal (suc k) (suc n) (byte ∷ (next ∷ bytes)) h =
    let all : List ℕ = byte ∷ (next ∷ bytes) in
    let bound : length all ≤ 2 ^ k * 2 = subst (λ p. length all ≤ p) (pow-suc 2 k) h in
    let both = half_below (length all) (2 ^ k) bound in
    let front = depth-literal k n (front_of all) (simp length-take (omega arith)) in
    let back = depth-literal k n (back_of all) (simp length-drop (omega arith)) in
    omega arith

-- the literals of the halves, joined
pub literal_joined : {first second : Expression} {front back : List ℕ} (bytes : List ℕ) → 2 ≤ length bytes
    → first ≡ literal_of front → second ≡ literal_of back → front ≡ front_of bytes → back ≡ back_of bytes
    → Expression.Concat first second ≡ literal_of bytes
literal_joined bytes h first second front back = grind (arith, common_steps, literal_halves)

pub literal_shallow : {e : Expression} (bytes : List ℕ) → e ≡ literal_of bytes → length bytes < 2 ^ 64
    → depth e ≤ 200
literal_shallow bytes is len =
    let d = depth-literal 64 (length bytes) bytes (omega arith) in
    omega (arith, ap depth is)

-- what is refused only where it is too deep, and isn't
pub only_memory : (r : Result Expression ExprError) (e : Expression) → IfErr r (RefusesJoin e) → depth e ≤ 200
    → IfErr r (λ x. x ≡ ExprError.Memory)
only_memory (Ok x) e h d = tt
only_memory (Err ExprError.TooDeep) e h d = absurd (omega arith)
only_memory (Err ExprError.Memory) e h d = refl
only_memory _ e h d = absurd h
