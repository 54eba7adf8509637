-- Where an expression's matches end, in order of preference: the textbook meaning of an expression, as
-- the list of ends that a backtracking matcher such as Perl's tries one after another. No automaton occurs
-- in it.
use Rattle.std.specs.Prelude.{ℕ, zero, suc, ◌+◌, ◌-◌, Bool, true, false, if◌then◌else◌, Option, Some, None, List, []}
use Rattle.std.specs.Prelude.{◌∷◌, ◌++◌, length}
use Rattle.std.specs.List.{flat_map}
use Rattle.rx_spec.specs.Bytes.{contains}
use Rattle.rx_spec.specs.Looks.{Reading, after, holds_at}
use Rattle.rx_spec.specs.Expressions.{Expression}

-- after a byte of the set
abbrev pub class_ends : ℕ → Option ℕ → ℕ → List ℕ
class_ends set None i = []
class_ends set (Some byte) i = if contains set byte then (i + 1) ∷ [] else []

-- exactly n rounds of a body
unfoldable pub rounds : (ℕ → List ℕ) → ℕ → ℕ → List ℕ
rounds body zero i = i ∷ []
rounds body (suc n) i = flat_map (λ j. rounds body n j) (body i)

-- a further round, or none: the greedy prefer the round
abbrev pub preferring : Bool → List ℕ → ℕ → List ℕ
preferring true more i = more ++ (i ∷ [])
preferring false more i = i ∷ more

-- at most n rounds of a body
unfoldable pub up_to : Bool → (ℕ → List ℕ) → ℕ → ℕ → List ℕ
up_to greedy body zero i = i ∷ []
up_to greedy body (suc n) i = preferring greedy (flat_map (λ j. up_to greedy body n j) (body i)) i

-- The rounds after the first ones. Without an end there are as many as bytes are left, since each
-- reads one.
abbrev pub further : Reading → ℕ → Option ℕ → Bool → (ℕ → List ℕ) → ℕ → List ℕ
further r least (Some most) greedy body i = up_to greedy body (most - least) i
further r least None greedy body i = up_to greedy body (length r.units - i) i

-- the places where a match that begins at a place may end, the preferred first
unfoldable pub ends : Reading → Expression → ℕ → List ℕ
ends r Expression.Empty i = i ∷ []
ends r (Expression.Class set) i = class_ends set (after r.units i) i
ends r (Expression.Look look) i = if holds_at r look i then i ∷ [] else []
ends r (Expression.Concat a b) i = flat_map (λ j. ends r b j) (ends r a i)
ends r (Expression.Alternate a b) i = ends r a i ++ ends r b i
ends r (Expression.Repeat least most greedy body) i =
    flat_map (λ j. further r least most greedy (λ k. ends r body k) j) (rounds (λ k. ends r body k) least i)
