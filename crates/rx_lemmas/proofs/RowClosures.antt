-- The closure of a row, where no path that reads nothing goes round: what the row is of itself, and
-- the closures of those behind it.
use Rattle.rx_spec.proofs.Prelude.{common_steps, ◌≡◌, ℕ, zero, suc, ◌+◌, ◌*◌, ◌<◌, ◌⊎◌, inl, inr, List, [], ◌∷◌, ◌++◌}
use Rattle.rx_spec.proofs.Prelude.{length, sum_by, refl, sym, ◌∙◌, arith, flat_map, Row, row_at, Passing, Standing}
use Rattle.rx_spec.proofs.Prelude.{Tested, reach_by, reach, closure, Short, IsShallow}
use Rattle.rx_spec.specs.Closures.{own_by, branches_by}
use Rattle.rx_lemmas.proofs.GraphSearch.{Graph}

-- ---- one row

reach_by-parts : (pass : Passing) (behind : ℕ → List ℕ) (q : ℕ) (row : Row)
    → reach_by pass behind q row ≡ own_by pass q row ++ flat_map behind (branches_by pass row)
reach_by-parts pass behind q (Row.Split first second) = grind (arith, common_steps)
reach_by-parts Standing behind q (Row.Look look next) = refl
reach_by-parts (Tested holds) behind q (Row.Look look next) = grind (arith, common_steps)
reach_by-parts pass behind q _ = refl

pub own_either : (pass : Passing) (q : ℕ) (row : Row) → (own_by pass q row ≡ []) ⊎ (own_by pass q row ≡ q ∷ [])
own_either pass q (Row.Bytes set next) = inr refl
own_either pass q (Row.Split first second) = inl refl
own_either Standing q (Row.Look look next) = inr refl
own_either (Tested holds) q (Row.Look look next) = inl refl
own_either pass q (Row.Match pattern) = inr refl
own_either pass q Row.Fail = inl refl

-- how many rows the paths from a row that read nothing meet, each as often as a path does
abbrev weight_by : (ℕ → ℕ) → Row → ℕ
weight_by behind (Row.Split first second) = 1 + behind first + behind second
weight_by behind (Row.Look look next) = 1 + behind next
weight_by behind _ = 1

-- ---- one step more changes nothing, where paths are short

unfoldable pub weight_within : List Row → ℕ → ℕ → ℕ
weight_within rows zero q = 0
weight_within rows (suc n) q = weight_by (λ p. weight_within rows n p) (row_at rows q)

reach_stays : (rows : List Row) (pass : Passing) (n q : ℕ) → Short rows n q
    → reach rows pass (suc n) q ≡ reach rows pass n q
unfolding Short reach
reach_stays rows pass zero q h = absurd h
reach_stays rows pass (suc n) q h =
    let more = λ (p : ℕ). reach rows pass (suc n) p in
    let less = λ (p : ℕ). reach rows pass n p in
    let each = λ (p : ℕ) (k : Short rows n p). reach_stays rows pass n p k in
    grind (arith, common_steps)

weight_stays : (rows : List Row) (n q : ℕ) → Short rows n q → weight_within rows (suc n) q ≡ weight_within rows n q
unfolding Short weight_within
weight_stays rows zero q h = absurd h
weight_stays rows (suc n) q h =
    let more = λ (p : ℕ). weight_within rows (suc n) p in
    let less = λ (p : ℕ). weight_within rows n p in
    let each = λ (p : ℕ) (k : Short rows n p). weight_stays rows n p k in
    grind (arith, common_steps)

-- ---- the rows as a graph

-- as many steps as a closure takes
abbrev pub steps : List Row → ℕ
steps rows = length rows * length rows + 1

abbrev pub weight_of : List Row → ℕ → ℕ
weight_of rows q = weight_within rows (steps rows) q

reach-next : (rows : List Row) (pass : Passing) (n q : ℕ)
    → reach rows pass (suc n) q ≡ reach_by pass (λ p. reach rows pass n p) q (row_at rows q)
unfolding reach
reach-next rows pass n q = refl

weight-next : (rows : List Row) (n q : ℕ)
    → weight_within rows (suc n) q ≡ weight_by (λ p. weight_within rows n p) (row_at rows q)
unfolding weight_within
weight-next rows n q = refl

pub closure_unfolds : (rows : List Row) (pass : Passing) → IsShallow rows → (q : ℕ)
    → closure rows pass q
    ≡ own_by pass q (row_at rows q) ++ flat_map (closure rows pass) (branches_by pass (row_at rows q))
closure_unfolds rows pass s q =
    sym (reach_stays rows pass (steps rows) q (s.short q)) ∙ reach-next rows pass (steps rows) q
    ∙ reach_by-parts pass (λ p. reach rows pass (steps rows) p) q (row_at rows q)

pub closure_falls : (rows : List Row) (pass : Passing) → IsShallow rows → (q : ℕ)
    → sum_by (weight_of rows) (branches_by pass (row_at rows q)) < weight_of rows q
closure_falls rows pass s q =
    let behind = λ (p : ℕ). weight_within rows (steps rows) p in
    let same = sym (weight-next rows (steps rows) q) ∙ weight_stays rows (steps rows) q (s.short q) in
    grind (arith, common_steps)

abbrev pub graph_of : (rows : List Row) (pass : Passing) → IsShallow rows → Graph
graph_of rows pass s = record {
  own = λ q. own_by pass q (row_at rows q);
  branches = λ q. branches_by pass (row_at rows q);
  gives = closure rows pass;
  weight = weight_of rows;
  own_is = λ q. own_either pass q (row_at rows q);
  unfolds = closure_unfolds rows pass s;
  falls = closure_falls rows pass s;
}
