-- The machine of a single letter: the states that are reached, and no others.
use Rattle.rx_spec.proofs.Prelude.{common_steps, ◌≡◌, ℕ, ◌<◌, ◌==◌, ⊎_elim, Bool, true, false, if◌then◌else◌, List, []}
use Rattle.rx_spec.proofs.Prelude.{◌∷◌, ◌++◌, length, refl, arith, Contains, nat_lt, slice_index_or, bit_at, and_parts}
use Rattle.rx_spec.proofs.Prelude.{ltb-true, agree_below_at, All-from_recursion, contains, only, all_bytes, Facts}
use Rattle.rx_spec.proofs.Prelude.{unit_facts, Anchored, IsWord, State, state_at, Build, Node, is_dead_state}
use Rattle.rx_spec.proofs.Prelude.{built_entry, built_modes, node_after, IsReached}
use Rattle.std.specs.List.{AllByRecursion as Every}
use Rattle.rx_laws.specs.Samples.{state, letter_forward, letter_reverse}
use Rattle.rx_laws.specs.StateExamples.{five_states, three_states, ReachedForward, ReachedInReverse}
use Rattle.rx_spec.specs.declared.Start.{Start}
use Rattle.rx_laws.proofs.Computing.{computing}
use Rattle.rx_laws.proofs.Reached.{Known, known_dead, Steps, reached_within, apart_by_codes}
use Rattle.rx_lemmas.proofs.Firsts.{Contains-nil, Contains-cases}

-- An a is a byte.
a_is_byte : (unit : ℕ) → contains (only 97) unit ≡ true → contains all_bytes unit ≡ true
a_is_byte unit is =
    let within = ltb-true unit 256 (and_parts (nat_lt unit 256) (bit_at (only 97) unit == 1) is).0 in
    agree_below_at (contains all_bytes) (λ b. true) 256 unit refl within

-- what a step leads to that reads a unit: quit, or the state of these targets
abbrev then_at : Build → Bool → List ℕ → Facts → List ℕ → Node
then_at b quits targets facts label = if quits then Node.Quit else Node.Running (state_at b.nfa targets facts label)

abbrev where_a : Bool → List ℕ
where_a a = if a then 0 ∷ [] else []

abbrev where_any : Bool → List ℕ
where_any any = if any then 2 ∷ [] else []

at_place : (xs : List State) (k : ℕ) (s : State) → k < length xs → slice_index_or xs k s ≡ s → Contains xs s
at_place xs k s h e = (k, h, e)

from_anchored : (quits a : Bool) (facts : Facts)
    → Known five_states (then_at letter_forward quits (where_a a ++ []) facts [])
unfolding computing
from_anchored true a facts = tt
from_anchored false true facts = λ alive. at_place five_states 2 (state (0 ∷ []) []) (omega arith) refl
from_anchored false false facts = λ alive. absurd (cc)

from_unanchored : (quits a any : Bool) (facts : Facts) → (a ≡ true → any ≡ true)
    → Known five_states (then_at letter_forward quits (where_a a ++ (where_any any ++ [])) facts [])
unfolding computing
from_unanchored true a any facts h = tt
from_unanchored false true true facts h = λ alive. at_place five_states 3 (state (0 ∷ 1 ∷ 3 ∷ []) []) (omega arith) refl
from_unanchored false true false facts h = absurd (let e = h refl in cc)
from_unanchored false false true facts h = λ alive. at_place five_states 1 (state (1 ∷ 3 ∷ []) []) (omega arith) refl
from_unanchored false false false facts h = λ alive. absurd (cc)

to_match : (quits : Bool) (facts : Facts) → Known five_states (then_at letter_forward quits [] facts (0 ∷ []))
unfolding computing
to_match true facts = tt
to_match false facts = λ alive. at_place five_states 4 (state [] (0 ∷ [])) (omega arith) refl

to_dead : (states : List State) (b : Build) (quits : Bool) (facts : Facts)
    → Known states (then_at b quits [] facts [])
unfolding computing
to_dead states b true facts = tt
to_dead states b false facts = λ alive. absurd (cc)

five_steps : Steps letter_forward five_states
unfolding computing
five_steps =
    let quits = contains 0 in
    let a = contains (only 97) in
    let any = contains all_bytes in
    let facts = unit_facts 10 in (
      λ unit. from_anchored (quits unit) (a unit) (facts unit),
      (
        λ unit. from_unanchored (quits unit) (a unit) (any unit) (facts unit) (a_is_byte unit),
        (
          λ unit. to_match (quits unit) (facts unit),
          (
            λ unit. to_match (quits unit) (facts unit),
            (λ unit. to_dead five_states letter_forward (quits unit) (facts unit), tt),
          ),
        ),
      ),
    )

five_starts : (mode : Anchored) (start : Start) → Known five_states (built_entry letter_forward mode start)
unfolding computing
five_starts Anchored.No start = λ alive. at_place five_states 1 (state (1 ∷ 3 ∷ []) []) (omega arith) refl
five_starts Anchored.Yes start = λ alive. at_place five_states 0 (state (1 ∷ []) []) (omega arith) refl
five_starts (Anchored.Pattern k) start = known_dead five_states

-- words of so many letters
no_letter : IsWord []
no_letter unit c = absurd (Contains-nil unit c)

letter_more : (word : List ℕ) → IsWord word → IsWord (97 ∷ word)
letter_more word h unit c =
    ⊎_elim
    (λ (e : 97 ≡ unit). omega arith)
    (λ (d : Contains word unit). h unit d)
    (Contains-cases 97 word unit c)

one_a : IsWord (97 ∷ [])
one_a = letter_more [] no_letter

two_as : IsWord (97 ∷ 97 ∷ [])
two_as = letter_more (97 ∷ []) one_a

-- a state to which a word leads, from the start of a mode that is built
reached_by : (b : Build) (mode : Anchored) (word : List ℕ) (s : State) → Contains (built_modes b) mode → IsWord word
    → node_after b mode Start.Text word ≡ Node.Running s → is_dead_state s ≡ false → IsReached b s
reached_by b mode word s built units leads alive = grind (arith, common_steps)

five_reached : Every (IsReached letter_forward) five_states
unfolding computing
five_reached =
    let no : Contains (built_modes letter_forward) Anchored.No = (0, omega arith, refl) in
    let yes : Contains (built_modes letter_forward) Anchored.Yes = (1, omega arith, refl) in
    let from = reached_by letter_forward in (
      from Anchored.Yes [] (state (1 ∷ []) []) yes no_letter refl refl,
      (
        from Anchored.No [] (state (1 ∷ 3 ∷ []) []) no no_letter refl refl,
        (
          from Anchored.Yes (97 ∷ []) (state (0 ∷ []) []) yes one_a refl refl,
          (
            from Anchored.No (97 ∷ []) (state (0 ∷ 1 ∷ 3 ∷ []) []) no one_a refl refl,
            (from Anchored.Yes (97 ∷ 97 ∷ []) (state [] (0 ∷ [])) yes two_as refl refl, tt),
          ),
        ),
      ),
    )

pub reached_forward : ReachedForward
reached_forward = record {
  distinct = apart_by_codes five_states refl;
  only = All-from_recursion (IsReached letter_forward) five_states five_reached;
  all = reached_within letter_forward five_states five_starts five_steps;
}

three_steps : Steps letter_reverse three_states
unfolding computing
three_steps = grind (arith, common_steps)

three_starts : (mode : Anchored) (start : Start) → Known three_states (built_entry letter_reverse mode start)
unfolding computing
three_starts Anchored.Yes start = λ alive. at_place three_states 0 (state (1 ∷ []) []) (omega arith) refl
three_starts _ start = known_dead three_states

three_reached : Every (IsReached letter_reverse) three_states
unfolding computing
three_reached =
    let yes : Contains (built_modes letter_reverse) Anchored.Yes = (0, omega arith, refl) in
    let from = reached_by letter_reverse Anchored.Yes in (
      from [] (state (1 ∷ []) []) yes no_letter refl refl,
      (
        from (97 ∷ []) (state (0 ∷ []) []) yes one_a refl refl,
        (from (97 ∷ 97 ∷ []) (state [] (0 ∷ [])) yes two_as refl refl, tt),
      ),
    )

pub reached_in_reverse : ReachedInReverse
reached_in_reverse = record {
  distinct = apart_by_codes three_states refl;
  only = All-from_recursion (IsReached letter_reverse) three_states three_reached;
  all = reached_within letter_reverse three_states three_starts three_steps;
}
