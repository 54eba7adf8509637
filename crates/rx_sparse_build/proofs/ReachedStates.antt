-- In a table that gives its build, and of which any two rows are told apart, each row that is reached is that of a
-- state.
use Rattle.rx_spec.proofs.Prelude.{common_steps, ◌≡◌, ◌≢◌, ℕ, zero, suc, ◌+◌, ◌<◌, ◌≤◌, ◌-◌, true, List, [], ◌∷◌, ◌++◌}
use Rattle.rx_spec.proofs.Prelude.{length, refl, ap, sym, ◌∙◌, subst, arith, get_or, Contains, All, AllPairs, and_parts}
use Rattle.rx_spec.proofs.Prelude.{eqb-true, get_or_default, All-from_get_or, Build, IsReached, Node, built_entry}
use Rattle.rx_spec.proofs.Prelude.{built_modes, dead, is_dead, is_dead_state, next_node, node_after, node_label, power}
use Rattle.rx_spec.proofs.Prelude.{AreToldApart, IsReachedRow, label_after, IsWord, Label, State, dead_state, IsTable}
use Rattle.rx_spec.proofs.Prelude.{Table}
use Rattle.rx_spec.specs.Labels.{Gives}
use Rattle.rx_lemmas.proofs.Firsts.{by_test}
use Rattle.rx_lemmas.proofs.Words.{IsWord-append, IsWord-head, IsWord-tail, run-append, run-cons, run-nil}

-- ---- dead and quit nodes

module _ (b : Build) where
  -- from a dead node every word leads to nothing
  dead_tells : (n : Node) (word : List ℕ) → is_dead n ≡ true → label_after (power b) n word ≡ Label.Plain
  dead_tells Node.Quit word e = absurd (cc)
  dead_tells (Node.Running s) [] e = grind (arith, common_steps, run-nil, eqb-true, and_parts)
  dead_tells (Node.Running s) (unit ∷ word) e =
      ap node_label (run-cons (next_node b) (Node.Running s) unit word)
      ∙ ap (λ n. label_after (power b) n word) (rw e refl)
      ∙ dead_tells dead word refl

-- ---- and the rows of a table

module _ {t : Table} (is : IsTable t) where
  -- dead and quit tell what these nodes tell
  dead_row : (word : List ℕ) → IsWord word → label_after t.machine 0 word ≡ Label.Plain
  dead_row [] w = ap t.machine.label (run-nil t.machine.next 0) ∙ is.dead_label
  dead_row (unit ∷ word) w =
      ap t.machine.label (run-cons t.machine.next 0 unit word)
      ∙ ap (λ r. label_after t.machine r word) (is.dead_stays unit (IsWord-head unit word w))
      ∙ dead_row word (IsWord-tail unit word w)

  quit_row : (unit : ℕ) (word : List ℕ) → IsWord (unit ∷ word)
      → label_after t.machine 1 (unit ∷ word) ≡ Label.Plain
  quit_row unit word w =
      ap t.machine.label (run-cons t.machine.next 1 unit word)
      ∙ ap (λ r. label_after t.machine r word) (is.quit_ends unit (IsWord-head unit word w))
      ∙ dead_row word (IsWord-tail unit word w)

-- every word leads from the row and from the node to equal labels
pub record AreAlike (t : Table) (b : Build) (row : ℕ) (n : Node) : Type 0 where
  pub tell : (word : List ℕ) → IsWord word → label_after t.machine row word ≡ label_after (power b) n word

-- so they have equal labels
pub alike_label : {t : Table} {b : Build} {row : ℕ} {n : Node} → AreAlike t b row n
    → t.machine.label row ≡ node_label n
alike_label {t} {b} {row} {n} alike =
    sym (ap t.machine.label (run-nil t.machine.next row))
    ∙ alike.tell [] (λ unit c. absurd (let h = c.1 in omega arith))
    ∙ ap node_label (run-nil (next_node b) n)

-- rows like one node aren't told apart
not_apart : {t : Table} {b : Build} {x y : ℕ} {m n : Node} → AreAlike t b x m → AreAlike t b y n → m ≡ n
    → AreToldApart t x y → ⊥
not_apart {t} {b} {x} {y} {m} {n} p q same apart = grind (arith, common_steps)

module _ {t : Table} {b : Build} (is : IsTable t) where
  -- row 0 is like every dead node, and row 1 like quit
  dead_alike : (n : Node) → is_dead n ≡ true → AreAlike t b 0 n
  dead_alike n e = record { tell = λ word w. dead_row is word w ∙ sym (dead_tells b n word e) }

  quit_alike : AreAlike t b 1 Node.Quit
  quit_alike = record { tell = tell }
    where
      tell : (word : List ℕ) → IsWord word → label_after t.machine 1 word ≡ label_after (power b) Node.Quit word
      tell [] w =
          ap t.machine.label (run-nil t.machine.next 1) ∙ is.quit_label
          ∙ sym (ap node_label (run-nil (next_node b) Node.Quit))
      tell (unit ∷ word) w = quit_row is unit word w ∙ sym (grind (arith, common_steps, run-cons, dead_tells b))

-- ---- the state of a row

-- a state that is reached, and tells what the row tells
pub record IsStateOf (t : Table) (b : Build) (row : ℕ) (s : State) : Type 0 where
  pub reached : IsReached b s
  pub alike : AreAlike t b row (Node.Running s)

-- a table that gives a build, whose rows behind quit are reached, and of which any two are told apart
pub record IsApart (t : Table) (b : Build) : Type 0 where
  pub is_table : IsTable t
  pub gives : Gives t b
  pub reached : (row : ℕ) → 1 < row → row < t.size → IsReachedRow (Contains (built_modes b)) t row
  pub apart : (x y : ℕ) → x < t.size → y < t.size → x ≢ y → AreToldApart t x y

module _ {t : Table} {b : Build} (is : IsApart t b) where
  module _ (row : ℕ) (behind : 1 < row) (h : row < t.size) where
    abbrev from : IsReachedRow (Contains (built_modes b)) t row
    from = is.reached row behind h

    -- the node to which the word leads that reaches the row
    abbrev node : Node
    node = node_after b from.mode from.start from.word

    node_alike : AreAlike t b row node
    node_alike = record {
      tell = λ word w.
          let v = from.word in
          ap (λ r. label_after t.machine r word) (sym from.leads)
          ∙ sym (ap t.machine.label (run-append t.machine.next (t.machine.entry from.mode from.start) v word))
          ∙ is.gives from.mode from.begins from.start (v ++ word) (IsWord-append v word from.is_word w)
          ∙ ap node_label (run-append (next_node b) (built_entry b from.mode from.start) v word);
    }

    -- It is a state and not dead, since the row is told apart from dead and quit.
    pub state_of : (s : State) × IsStateOf t b row s
    state_of = at node refl node_alike
      where
        two : 2 ≤ t.size
        two = is.is_table.two

        at : (n : Node) → node ≡ n → AreAlike t b row n → (s : State) × IsStateOf t b row s
        at Node.Quit e alike =
            absurd (not_apart alike (quit_alike {b = b} is.is_table) refl
            (is.apart row 1 h (omega arith) (λ same. omega (arith, same))))
        at (Node.Running s) e alike = (
          s,
          record {
            reached = record {
              mode = from.mode;
              built = from.begins;
              start = from.start;
              word = from.word;
              units = from.is_word;
              leads = e;
              alive =
                  by_test (is_dead_state s)
                  (λ yes. absurd (not_apart alike (dead_alike {b = b} is.is_table (Node.Running s) yes) refl
                  (is.apart row 0 h (omega arith) (λ same. omega (arith, same)))))
                  (λ no. no);
            };
            alike = alike;
          },
        )

  -- as many states from a row on
  record AreStates (row count : ℕ) : Type 0 where
    states : List State
    counted : length states ≡ count
    each : (i : ℕ) → i < count → IsStateOf t b (row + i) (get_or states i dead_state)

  -- each row has one
  states_from : (row count : ℕ) → 1 < row → row + count ≤ t.size → AreStates row count
  states_from row zero behind h = record { states = []; counted = refl; each = λ i lt. absurd (omega arith) }
  states_from row (suc count) behind h =
      let first = state_of row behind (omega arith) in
      let rest = states_from (row + 1) count (omega arith) (omega arith) in
      record {
        states = first.0 ∷ rest.states;
        counted = ap suc rest.counted;
        each = each first rest;
      }
    where
      each : (first : (s : State) × IsStateOf t b row s) (rest : AreStates (row + 1) count) (i : ℕ) → i < suc count
          → IsStateOf t b (row + i) (get_or (first.0 ∷ rest.states) i dead_state)
      each first rest zero lt = subst (λ r. IsStateOf t b r first.0) (omega arith) first.1
      each first rest (suc i) lt =
          subst (λ r. IsStateOf t b r (get_or rest.states i dead_state)) (omega arith) (rest.each i (omega arith))

  -- The states of all rows behind quit: they are reached, and different.
  pub record AreRowStates (states : List State) : Type 0 where
    pub counted : length states + 2 ≡ t.size
    pub distinct : AllPairs (λ x y. x ≢ y) states
    pub reached : All (IsReached b) states
    pub each : (i : ℕ) → i < length states → IsStateOf t b (2 + i) (get_or states i dead_state)

  -- there are such states
  pub row_states : (states : List State) × AreRowStates states
  row_states =
      let all = states_from 2 (t.size - 2) (omega arith) (omega arith) in
      let count = all.counted in
      let within : (i : ℕ) → i < length all.states → i < t.size - 2 = λ i h. omega arith in (
        all.states,
        record {
          counted = omega arith;
          distinct = λ i j d less h.
              let c = get_or_default all.states j d dead_state h in
              λ same.
              (not_apart (all.each i (omega arith)).alike (all.each j (omega arith)).alike
              (ap Node.Running (sym (get_or_default all.states i d dead_state (omega arith)) ∙ same ∙ c))
              (is.apart (2 + i) (2 + j) (omega arith) (omega arith) (λ e. omega (arith, e, is.is_table.two))));
          reached = All-from_get_or (IsReached b) all.states dead_state (λ i h. (all.each i (within i h)).reached);
          each = λ i h. all.each i (within i h);
        },
      )
