-- How many rows and patterns a state can have.
use Rattle.rx_spec.proofs.Prelude.{common_steps, ◌≡◌, ℕ, suc, ◌<◌, ◌≤◌, ◌==◌, ◌⊎◌, Bool, true, false, if◌then◌else◌}
use Rattle.rx_spec.proofs.Prelude.{List, [], ◌∷◌, ◌++◌, length, sym, subst, arith, ⊎_elim, length-append, eqb-true}
use Rattle.rx_spec.proofs.Prelude.{false_from_ne_true, flat_map, IsDistinct, Contains, Row, row_at, is_match_row}
use Rattle.rx_spec.proofs.Prelude.{to_first_match, cut, pattern_of, firsts}
use Rattle.std.proofs.lemmas.Map.Steps.{length-le_from_distinct_below}
use Rattle.std.specs.List.{AllByRecursion as Every}
use Rattle.rx_spec.specs.declared.MatchKind.{MatchKind}
use Rattle.rx_lemmas.proofs.Firsts.{Contains-here, Contains-there, Apart, Apart-fresh}
use Rattle.rx_lemmas.proofs.GraphSearch.{In, in_nil, in_cases}

-- ---- rows

apart_each : (x : ℕ) (xs : List ℕ) → (Contains xs x → ⊥) → Every (λ y. (x == y) ≡ false) xs
apart_each x [] new = tt
apart_each x (y ∷ ys) new =
    let here = λ (e : (x == y) ≡ true). subst (λ v. Contains (v ∷ ys) x) (eqb-true x y e) (Contains-here x ys) in
    (false_from_ne_true (x == y) (λ e. new (here e)), apart_each x ys (λ c. new (Contains-there y ys x c)))

distinct : (xs : List ℕ) → Apart xs → IsDistinct (λ a b. a == b) xs
unfolding IsDistinct
distinct [] h = tt
distinct (x ∷ xs) h = (apart_each x xs h.0, distinct xs h.1)

each_below : (n : ℕ) (xs : List ℕ) → Every (λ x. x < n) xs → (q : ℕ) → In xs q → q < n
each_below n [] h q k = absurd (in_nil q k)
each_below n (x ∷ xs) h q k =
    ⊎_elim
    (λ (e : q ≡ x). subst (λ v. v < n) (sym e) h.0)
    (λ (k : In xs q). each_below n xs h.1 q k)
    (in_cases x q xs k)

-- first occurrences below a bound are no more than that
pub few_firsts : {ys : List ℕ} (xs : List ℕ) (n : ℕ) → ys ≡ firsts xs → Every (λ x. x < n) ys → length ys ≤ n
few_firsts {ys} xs n e h =
    length-le_from_distinct_below ys n (distinct ys (subst Apart (sym e) (Apart-fresh [] xs))) (each_below n ys h)

pub few_more : {q : ℕ} {more own : List ℕ} (n : ℕ) (out : List ℕ) → q < n → (own ≡ []) ⊎ (own ≡ q ∷ [])
    → more ≡ out ++ own → Every (λ x. x < n) out → Every (λ x. x < n) more
few_more {q} {own = own} n out lt is e h = grind (arith, common_steps)

-- ---- patterns

pub first_few : (rows : List Row) (xs : List ℕ) → length (to_first_match rows xs) ≤ length xs
unfolding to_first_match
first_few rows [] = omega arith
first_few rows (x ∷ xs) =
    let h = first_few rows xs in
    let Few = λ (v : Bool). length (if v then x ∷ [] else (x ∷ to_first_match rows xs)) ≤ suc (length xs) in
    elim (is_match_row (row_at rows x)) as Few [ true ↦ omega arith | false ↦ omega arith ]

cut_few : (kind : MatchKind) (rows : List Row) (xs : List ℕ) → length (cut kind rows xs) ≤ length xs
cut_few MatchKind.All rows xs = omega arith
cut_few MatchKind.LeftmostFirst rows xs = first_few rows xs

pub pattern_few : (row : Row) → length (pattern_of row) ≤ 1
pattern_few (Row.Bytes set next) = omega arith
pattern_few _ = omega arith

patterns_few : (rows : List Row) (xs : List ℕ) → length (flat_map (λ q. pattern_of (row_at rows q)) xs) ≤ length xs
patterns_few rows [] = omega arith
patterns_few rows (x ∷ xs) =
    let here = pattern_of (row_at rows x) in
    let others = flat_map (λ q. pattern_of (row_at rows q)) xs in
    omega (arith, length-append here others, pattern_few (row_at rows x), patterns_few rows xs)

-- no more patterns are told than there are rows
pub few_told : (kind : MatchKind) (rows : List Row) (settled : List ℕ) {going label : List ℕ}
    → going ≡ cut kind rows settled → label ≡ flat_map (λ q. pattern_of (row_at rows q)) going
    → length label ≤ length settled
few_told kind rows settled {going} eg el = grind (arith, common_steps, patterns_few, cut_few)
