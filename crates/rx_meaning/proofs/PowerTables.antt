-- A table that is a build's powerset machine gives the build, and its rows are reached.
use Rattle.rx_spec.proofs.Prelude.{rules, ◌≡◌, ℕ, suc, zero, ◌<◌, false, List, [], ◌∷◌, length, get_or, sym, ap, ◌∙◌}
use Rattle.rx_spec.proofs.Prelude.{arith, common_steps, get_or-map, Contains, Anchored, Build, dead, is_dead_state}
use Rattle.rx_spec.proofs.Prelude.{built_modes, next_node, node_after, power, IsWord, run, dead_state, Table, IsTable}
use Rattle.rx_spec.proofs.Prelude.{row_after, SameLabels, IsReachedRow, node_at, IsPower}
use Rattle.rx_spec.specs.Builds as builds
use Rattle.rx_spec.specs.declared.Start.{Start}
use Rattle.rx_lemmas.proofs.SilentRows.{row_there}
use Rattle.rx_lemmas.proofs.Words.{run-nil, run-cons, IsWord-head, IsWord-tail}
use Rattle.rx_meaning.specs.Least.{PowerGives, PowerIsReached}

module _ (t : Table) (b : Build) (is : IsTable t) (by : IsPower t b) where
  -- words lead alike
  node_run : (row : ℕ) (word : List ℕ) → row < t.size → IsWord word
      → node_at by.states (run t.machine.next row word) ≡ run (next_node b) (node_at by.states row) word
  node_run row [] l w = grind (arith, common_steps, run-nil)
  node_run row (unit ∷ word) l w =
      let h = IsWord-head unit word w in
      ap (node_at by.states) (run-cons t.machine.next row unit word)
      ∙ node_run (t.machine.next row unit) word (is.nexts row unit l h) (IsWord-tail unit word w)
      ∙ ap (λ n. run (next_node b) n word) (by.nexts row unit l h)
      ∙ sym (run-cons (next_node b) (node_at by.states row) unit word)

  node_there : (mode : Anchored) (start : Start) (word : List ℕ) → IsWord word
      → node_at by.states (row_after t mode start word) ≡ node_after b mode start word
  node_there mode start word w = grind (arith, common_steps, node_run)

  -- from the starts of all modes, built or not
  pub same_as_power : (Starts : Anchored → Type 0) → SameLabels Starts t.machine (power b)
  same_as_power Starts mode begins start word w = grind (arith, common_steps, row_there t is, node_there)

  state_row : (i : ℕ) → i < length by.states
      → node_at by.states (suc (suc i)) ≡ builds.Running (get_or by.states i dead_state)
  state_row i l = get_or-map (λ s. builds.Running s) by.states i dead_state dead l

  states_alone : (i j : ℕ) → i < length by.states → j < length by.states
      → get_or by.states i dead_state ≡ get_or by.states j dead_state → i ≡ j
  states_alone i j li lj e = search rules

  -- the row of a state that isn't dead
  row_of_state : (x i : ℕ) → x < t.size → i < length by.states
      → is_dead_state (get_or by.states i dead_state) ≡ false
      → node_at by.states x ≡ builds.Running (get_or by.states i dead_state) → x ≡ suc (suc i)
  row_of_state zero i lx li alive e = grind (arith, common_steps)
  row_of_state (suc zero) i lx li alive e = absurd (cc)
  row_of_state (suc (suc j)) i lx li alive e = grind (arith, common_steps, states_alone, state_row)

  reached : (row : ℕ) → 1 < row → row < t.size → IsReachedRow (Contains (built_modes b)) t row
  reached zero h l = absurd (omega arith)
  reached (suc zero) h l = absurd (omega arith)
  reached (suc (suc i)) h l =
      let li : i < length by.states = omega arith in
      let r = by.reached.only i dead_state li in
      record {
        mode = r.mode;
        begins = r.built;
        start = r.start;
        word = r.word;
        is_word = r.units;
        leads =
            row_of_state (row_after t r.mode r.start r.word) i (row_there t is r.mode r.start r.word r.units) li
            r.alive
            (node_there r.mode r.start r.word r.units ∙ r.leads);
      }

pub power_gives : PowerGives
power_gives t b is by = same_as_power t b is by (Contains (built_modes b))

pub power_is_reached : PowerIsReached
power_is_reached t b is by row h l = reached t b is by row h l
