-- Which states are reached: a list that holds every start and every step from its members holds them
-- all.
use Rattle.rx_spec.proofs.Prelude.{rules, ◌≡◌, ◌≢◌, ℕ, zero, suc, ◌+◌, ◌*◌, ◌==◌, ◌&&◌, Bool, true, false, not, ⊎_elim}
use Rattle.rx_spec.proofs.Prelude.{List, [], ◌∷◌, ◌++◌, ap, sym, subst, arith, common_steps, Contains, AllPairs}
use Rattle.rx_spec.proofs.Prelude.{and_parts, eq-eqb, Anchored, run, State, Build, Node, dead, is_dead_state, next_node}
use Rattle.rx_spec.proofs.Prelude.{built_entry, IsReached}
use Rattle.std.specs.List.{AllByRecursion as Every}
use Rattle.rx_spec.specs.declared.Start.{Start}
use Rattle.rx_lemmas.proofs.Firsts.{Contains-nil, Contains-cases}

-- a node that is quit, dead or in the list
abbrev pub Known : List State → Node → Type 0
Known states Node.Quit = Unit {0}
Known states (Node.Running s) = is_dead_state s ≡ false → Contains states s

pub known_dead : (states : List State) → Known states dead
known_dead states alive = absurd (cc)

-- each start is known, and each step from a member
abbrev pub StepsKnown : Build → List State → State → Type 0
StepsKnown b states s = (unit : ℕ) → Known states (next_node b (Node.Running s) unit)

abbrev pub Steps : Build → List State → Type 0
Steps b states = Every (StepsKnown b states) states

next_known : (b : Build) (states : List State) → Steps b states → (node : Node) → Known states node → (unit : ℕ)
    → Known states (next_node b node unit)
next_known b states steps Node.Quit known unit = known_dead states
next_known b states steps (Node.Running s) known unit = grind (arith, common_steps)

run_known : (b : Build) (states : List State) → Steps b states → (word : List ℕ) (node : Node) → Known states node
    → Known states (run (next_node b) node word)
unfolding run
run_known b states steps [] node known = known
run_known b states steps (unit ∷ word) node known =
    run_known b states steps word (next_node b node unit) (next_known b states steps node known unit)

pub reached_within : (b : Build) (states : List State)
    → ((mode : Anchored) (start : Start) → Known states (built_entry b mode start)) → Steps b states
    → (s : State) → IsReached b s → Contains states s
reached_within b states starts steps s r =
    subst (Known states) r.leads
    (run_known b states steps r.word (built_entry b r.mode r.start) (starts r.mode r.start)) r.alive

-- the label and the rows as digits: states of different numbers are different
abbrev pub number : List ℕ → ℕ
number [] = 0
number (x ∷ xs) = x + 1 + 10 * number xs

abbrev pub code : State → ℕ
code s = number (s.label ++ (7 ∷ s.rows))

abbrev pub is_new : ℕ → List State → Bool
is_new n [] = true
is_new n (x ∷ xs) = not (n == code x) && is_new n xs

abbrev pub are_apart : List State → Bool
are_apart [] = true
are_apart (x ∷ xs) = is_new (code x) xs && are_apart xs

new_one : (x : State) (xs : List State) → is_new (code x) xs ≡ true → Contains xs x → ⊥
new_one x [] e c = Contains-nil x c
new_one x (y ∷ ys) e c =
    let parts = and_parts (not (code x == code y)) (is_new (code x) ys) e in
    ⊎_elim
    (λ (same : y ≡ x).
    let t : (code x == code y) ≡ true = eq-eqb (code x) (code y) (ap code (sym same)) in
    let f = parts.0 in
    absurd (contrary (code x == code y) t f))
    (λ (d : Contains ys x). new_one x ys parts.1 d)
    (Contains-cases y ys x c)
  where
    contrary : (b : Bool) → b ≡ true → not b ≡ true → ⊥
    contrary true t f = absurd (cc)
    contrary false t f = absurd (cc)

pub apart_by_codes : (xs : List State) → are_apart xs ≡ true → AllPairs (λ x y. x ≢ y) xs
apart_by_codes [] a i j d h k e = omega arith
apart_by_codes (x ∷ xs) a i zero d h k e = omega arith
apart_by_codes (x ∷ xs) a zero (suc j) d h k e = search (rules, new_one)
apart_by_codes (x ∷ xs) a (suc i) (suc j) d h k e =
    apart_by_codes xs (and_parts (is_new (code x) xs) (are_apart xs) a).1 i j d (omega arith) (omega arith) e
