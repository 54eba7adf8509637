-- What a row reaches without reading a byte, where paths that read nothing are short; and steps.
use Rattle.rx_spec.proofs.Prelude.{common_steps, ◌≡◌, ℕ, zero, suc, ◌+◌, ◌*◌, ◌≤◌, Bool, true, false, List, [], ◌∷◌}
use Rattle.rx_spec.proofs.Prelude.{◌++◌, length, refl, ap, ap₂, sym, ◌∙◌, subst, arith, flat_map, eoi, Row, Nfa}
use Rattle.rx_spec.proofs.Prelude.{AllNext, Short, IsShallow, row_at, Passing, Standing, Tested, reach_by, reach}
use Rattle.rx_spec.proofs.Prelude.{closure, firsts, fresh, State, decided_rows, pattern_of, is_match_row}
use Rattle.rx_spec.proofs.Prelude.{to_first_match, cut, target, step}
use Rattle.rx_spec.specs.declared.Look.{Look}
use Rattle.rx_spec.specs.declared.MatchKind.{MatchKind}
use Rattle.rx_lemmas.proofs.Firsts.{by_test}
use Rattle.rx_lemmas.proofs.ShortPaths.{AllNext-more, reach_by-same}
use Rattle.rx_lemmas.proofs.FirstMatch.{pattern_of-none}

abbrev bound : List Row → ℕ
bound rows = length rows * length rows

closure_steps : (rows : List Row) (pass : Passing) (q : ℕ)
    → closure rows pass q ≡ reach_by pass (λ p. reach rows pass (bound rows) p) q (row_at rows q)
unfolding reach
closure_steps rows pass q = grind (arith, common_steps)

-- one step more reaches nothing new
reach_more : (rows : List Row) (pass : Passing) (n q : ℕ) → Short rows n q
    → reach rows pass n q ≡ reach rows pass (suc n) q
unfolding Short reach
reach_more rows pass zero q h = absurd h
reach_more rows pass (suc n) q h =
    reach_by-same pass (λ p. reach rows pass n p) (λ p. reach rows pass (suc n) p) q (row_at rows q)
    (AllNext-more (λ p. Short rows n p) (λ p. reach rows pass n p ≡ reach rows pass (suc n) p)
    (λ p k. reach_more rows pass n p k) (row_at rows q) h)

next_short : (rows : List Row) (q : ℕ) → Short rows (bound rows + 1) q
    → AllNext (λ p. Short rows (bound rows) p) (row_at rows q)
unfolding Short
next_short rows q h = grind (arith, common_steps)

reach_bound : (rows : List Row) (pass : Passing) (p : ℕ) → Short rows (bound rows) p
    → reach rows pass (bound rows) p ≡ closure rows pass p
reach_bound rows pass p h = grind (arith, common_steps, reach_more)

-- so the closure of a row is made of the closures of those next to it
pub closure_by_row : (rows : List Row) (pass : Passing) (q : ℕ) → IsShallow rows
    → closure rows pass q ≡ reach_by pass (λ p. closure rows pass p) q (row_at rows q)
closure_by_row rows pass q shallow =
    grind (arith, common_steps, closure_steps, reach_by-same, AllNext-more, reach_bound, next_short)

pub closure_bytes : (rows : List Row) (pass : Passing) (q set next : ℕ) → row_at rows q ≡ Row.Bytes set next
    → closure rows pass q ≡ q ∷ []
closure_bytes rows pass q set next e = grind (arith, common_steps, closure_steps)

pub closure_match : (rows : List Row) (pass : Passing) (q pattern : ℕ) → row_at rows q ≡ Row.Match pattern
    → closure rows pass q ≡ q ∷ []
closure_match rows pass q pattern e = grind (arith, common_steps, closure_steps)

pub closure_fail : (rows : List Row) (pass : Passing) (q : ℕ) → row_at rows q ≡ Row.Fail → closure rows pass q ≡ []
closure_fail rows pass q e = grind (arith, common_steps, closure_steps)

pub closure_split : (rows : List Row) (pass : Passing) (q first second : ℕ) → IsShallow rows
    → row_at rows q ≡ Row.Split first second
    → closure rows pass q ≡ closure rows pass first ++ closure rows pass second
closure_split rows pass q first second shallow e = grind (arith, common_steps, closure_by_row)

pub closure_standing : (rows : List Row) (q next : ℕ) (look : Look) → row_at rows q ≡ Row.Look look next
    → closure rows Standing q ≡ q ∷ []
closure_standing rows q next look e = grind (arith, common_steps, closure_steps)

pub closure_holding : (rows : List Row) (holds : Look → Bool) (q next : ℕ) (look : Look) → IsShallow rows
    → row_at rows q ≡ Row.Look look next → holds look ≡ true
    → closure rows (Tested holds) q ≡ closure rows (Tested holds) next
closure_holding rows holds q next look shallow e t = grind (arith, common_steps, closure_by_row)

pub closure_failing : (rows : List Row) (holds : Look → Bool) (q next : ℕ) (look : Look)
    → row_at rows q ≡ Row.Look look next → holds look ≡ false → closure rows (Tested holds) q ≡ []
closure_failing rows holds q next look e f = grind (arith, common_steps, closure_steps)

-- no row reads the end mark
no_target : (row : Row) → target eoi row ≡ []
no_target (Row.Bytes set next) = refl
no_target _ = refl

no_targets : (rows : List Row) (qs : List ℕ) → flat_map (λ q. target eoi (row_at rows q)) qs ≡ []
no_targets rows [] = refl
no_targets rows (q ∷ qs) = ap₂ (λ (a b : List ℕ). a ++ b) (no_target (row_at rows q)) (no_targets rows qs)

rows_of_none : (rows : List Row) → firsts (flat_map (λ q. closure rows Standing q) []) ≡ []
unfolding fresh
rows_of_none rows = refl

pub end_mark_ends : (nfa : Nfa) (kind : MatchKind) (s : State) → (step nfa kind s eoi).rows ≡ []
unfolding step
end_mark_ends nfa kind s =
    ap (λ qs. firsts (flat_map (λ q. closure nfa.rows Standing q) qs))
    (no_targets nfa.rows (cut kind nfa.rows (decided_rows nfa eoi s)))
    ∙ rows_of_none nfa.rows

one_pattern : (row : Row) → length (pattern_of row ++ []) ≤ 1
one_pattern (Row.Bytes set next) = omega arith
one_pattern _ = omega arith

abbrev patterns_at : List Row → List ℕ → List ℕ
patterns_at rows qs = flat_map (λ q. pattern_of (row_at rows q)) qs

told_once : (rows : List Row) (qs : List ℕ) → length (patterns_at rows (to_first_match rows qs)) ≤ 1
unfolding to_first_match
told_once rows [] = omega arith
told_once rows (q ∷ qs) =
    by_test (is_match_row (row_at rows q))
    (λ e. rw e (one_pattern (row_at rows q)))
    (λ e. rw e (subst (λ (l : List ℕ). length (l ++ patterns_at rows (to_first_match rows qs)) ≤ 1)
    (sym (pattern_of-none (row_at rows q) e)) (told_once rows qs)))

pub tells_one : (nfa : Nfa) (s : State) (unit : ℕ) → length (step nfa MatchKind.LeftmostFirst s unit).label ≤ 1
unfolding step
tells_one nfa s unit = told_once nfa.rows (decided_rows nfa unit s)

pub tells_all : (nfa : Nfa) (s : State) (unit : ℕ)
    → (step nfa MatchKind.All s unit).label ≡ patterns_at nfa.rows (decided_rows nfa unit s)
unfolding step
tells_all nfa s unit = refl
