-- The nodes of a build by their rows.
use Rattle.rx_spec.proofs.Prelude.{rules, arith, ◌≡◌, ℕ, true, false, Some, List, ⊎_elim, common_steps, cases_Bool}
use Rattle.rx_spec.proofs.Prelude.{when_false, get_or_from_slice_get, slice_get, Build, Node, Quit, Running, dead}
use Rattle.rx_spec.proofs.Prelude.{is_dead, is_dead_state, next_node, built_entry, node_label, Label, Facts, Nfa}
use Rattle.rx_spec.proofs.Prelude.{node_at, Anchored, State, dead_state, state_at, step}
use Rattle.rx_determinize.proofs.Prelude.{IsRowOf, MatchKind, nodes}
use Rattle.rx_spec.specs.declared.Start.{Start}

-- a state that is made and is dead has no facts
state_whole : (nfa : Nfa) (qs : List ℕ) (facts : Facts) (label : List ℕ)
    → is_dead_state (state_at nfa qs facts label) ≡ true → state_at nfa qs facts label ≡ dead_state
state_whole nfa qs facts label e = grind (arith, common_steps)

step_whole : (nfa : Nfa) (kind : MatchKind) (s : State) (unit : ℕ) → is_dead_state (step nfa kind s unit) ≡ true
    → step nfa kind s unit ≡ dead_state
unfolding step
step_whole nfa kind s unit e = state_whole nfa _ _ _ e

-- a node that is dead is the dead node
abbrev pub IsWhole : Node → Type 0
IsWhole node = is_dead node ≡ true → node ≡ dead

pub next_whole : (b : Build) (node : Node) (unit : ℕ) → IsWhole (next_node b node unit)
next_whole b node unit = grind (arith, common_steps, step_whole)

pub entry_whole : (b : Build) (mode : Anchored) (start : Start) → IsWhole (built_entry b mode start)
entry_whole b mode start = grind (arith, common_steps)

-- the node of its row
pub node_of_row : (states : List State) (node : Node) (row : ℕ) → IsWhole node → IsRowOf states node row
    → node_at states row ≡ node
node_of_row states node row whole is_row = ⊎_elim dies lives (cases_Bool (is_dead node))
  where
    dies : is_dead node ≡ true → node_at states row ≡ node
    dies e = grind (arith, common_steps)

    lives : is_dead node ≡ false → node_at states row ≡ node
    lives e = at row (when_false (row ≡ 0) (slice_get (nodes states) row ≡ Some node) e is_row)
      where
        at : (row : ℕ) → slice_get (nodes states) row ≡ Some node → node_at states row ≡ node
        at row there = search (rules, get_or_from_slice_get)

-- only quit has row 1
pub quit_of_row : (states : List State) (node : Node) (row : ℕ) → row ≡ 1 → IsRowOf states node row → node ≡ Quit
quit_of_row states node row one is_row = grind (arith, common_steps)

-- no node leads to quit at the end mark, and none is a start
pub eoi_goes_on : (b : Build) (s : State) → next_node b (Running s) 256 ≡ Quit → ⊥
eoi_goes_on b s e = grind (arith, common_steps)

pub entry_goes_on : (b : Build) (mode : Anchored) (start : Start) → built_entry b mode start ≡ Quit → ⊥
entry_goes_on b mode start = grind (arith, common_steps)

-- a start tells nothing
pub entry_plain : (b : Build) (mode : Anchored) (start : Start) → node_label (built_entry b mode start) ≡ Label.Plain
entry_plain b mode start = grind (arith, common_steps)
