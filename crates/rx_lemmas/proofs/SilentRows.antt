-- Rows from which nothing is told any more.
use Rattle.rx_spec.proofs.Prelude.{[], arith, rules, ◌≡◌, ℕ, ◌<◌, true, List, ◌∷◌, refl, ap, sym, ◌∙◌, common_steps}
use Rattle.rx_spec.proofs.Prelude.{Label, label_of, Machine, IsWord, run, State, Build, Node, dead, is_dead}
use Rattle.rx_spec.proofs.Prelude.{is_dead_state, next_node, node_label, power, Table, IsTable, row_after, Anchored}
use Rattle.rx_lemmas.proofs.Words.{IsWord-nil, IsWord-head, IsWord-tail, IsWord-cons, run-nil, run-cons, run-within}
use Rattle.rx_spec.specs.declared.Start.{Start}

-- every word leads to a plain label
pub record IsSilent {R : Type 0} (m : Machine R) (row : R) : Type 0 where
  pub plain : (word : List ℕ) → IsWord word → m.label (run m.next row word) ≡ Label.Plain

-- Among rows that units don't leave, the dead ones are silent.
pub record EndsWell {R : Type 0} (m : Machine R) (In : R → Type 0) : Type 0 where
  pub closed : (row : R) (unit : ℕ) → In row → unit < 257 → In (m.next row unit)
  pub silent : (row : R) → In row → m.is_dead row ≡ true → IsSilent m row

pub silent_label : {R : Type 0} (m : Machine R) (row : R) → IsSilent m row → m.label row ≡ Label.Plain
silent_label m row s = ap m.label (sym (run-nil m.next row)) ∙ s.plain [] IsWord-nil

pub silent_next : {R : Type 0} (m : Machine R) (row : R) (unit : ℕ) → IsSilent m row → unit < 257
    → IsSilent m (m.next row unit)
silent_next m row unit s h = record {
  plain = λ word w.
      ap m.label (sym (run-cons m.next row unit word)) ∙ s.plain (unit ∷ word) (IsWord-cons unit word h w);
}

-- a state that is dead has no rows and no label
pub dead_empty : (s : State) → is_dead_state s ≡ true → (s.rows ≡ []) × (s.label ≡ [])
dead_empty s e = grind (arith, common_steps)

-- in a build's powerset machine, the dead nodes
pub dead_label : (b : Build) (word : List ℕ) → node_label (run (next_node b) dead word) ≡ Label.Plain
dead_label b [] = ap node_label (run-nil (next_node b) dead)
dead_label b (unit ∷ word) = ap node_label (run-cons (next_node b) dead unit word) ∙ dead_label b word

dead_goes_on : (b : Build) (node : Node) (unit : ℕ) → is_dead node ≡ true → next_node b node unit ≡ dead
dead_goes_on b Node.Quit unit e = refl
dead_goes_on b (Node.Running s) unit e = rw e refl

dead_is_plain : (node : Node) → is_dead node ≡ true → node_label node ≡ Label.Plain
dead_is_plain Node.Quit e = absurd (cc)
dead_is_plain (Node.Running s) e = ap label_of (dead_empty s e).1

dead_word : (b : Build) (node : Node) → is_dead node ≡ true → (word : List ℕ)
    → node_label (run (next_node b) node word) ≡ Label.Plain
dead_word b node e [] = ap node_label (run-nil (next_node b) node) ∙ dead_is_plain node e
dead_word b node e (unit ∷ word) = search (rules, run-cons, dead_goes_on, dead_label)

abbrev pub AnyNode : Node → Type 0
AnyNode node = Unit {0}

pub power_ends_well : (b : Build) → EndsWell (power b) AnyNode
power_ends_well b = search (rules, dead_word)

-- in a table, row 0
abbrev pub IsRow : Table → ℕ → Type 0
IsRow t row = row < t.size

-- the row to which a word leads from a row, or from a start, is a row
pub run_there : (t : Table) → IsTable t → (row : ℕ) (word : List ℕ) → IsRow t row → IsWord word
    → IsRow t (run t.machine.next row word)
run_there t is = run-within t.machine.next (IsRow t) is.nexts

pub row_there : (t : Table) → IsTable t → (mode : Anchored) (start : Start) (word : List ℕ) → IsWord word
    → IsRow t (row_after t mode start word)
row_there t is mode start word w = run_there t is (t.machine.entry mode start) word (is.entries mode start) w

zero_stays : (t : Table) → IsTable t → (word : List ℕ) → IsWord word → run t.machine.next 0 word ≡ 0
zero_stays t is [] w = run-nil t.machine.next 0
zero_stays t is (unit ∷ word) w =
    run-cons t.machine.next 0 unit word
    ∙ ap (λ row. run t.machine.next row word) (is.dead_stays unit (IsWord-head unit word w))
    ∙ zero_stays t is word (IsWord-tail unit word w)

pub zero_is_silent : (t : Table) → IsTable t → IsSilent t.machine 0
zero_is_silent t is = record { plain = λ word w. ap t.machine.label (zero_stays t is word w) ∙ is.dead_label }

pub table_ends_well : (t : Table) → IsTable t → EndsWell t.machine (IsRow t)
table_ends_well t is = grind (arith, common_steps, zero_is_silent)
