-- The rows of a table that is a powerset machine are its nodes: they are different, lead alike, and are left on the
-- same bytes.
use Rattle.rx_spec.proofs.Prelude.{common_steps, ◌≡◌, ℕ, zero, suc, ◌<◌, ◌==◌, true, false, not, length, get_or, refl}
use Rattle.rx_spec.proofs.Prelude.{ap, sym, ◌∙◌, arith, nat_lt, range_with_len, cases_lt, le-ltb, lt-ltb, ne_eqb}
use Rattle.rx_spec.proofs.Prelude.{get_or-map, All-get_or, Build, IsReached, Node, dead, is_dead, next_node, IsPower}
use Rattle.rx_spec.proofs.Prelude.{node_at, same_node, State, dead_state, IsTable, Table, leaving}
use Rattle.std.proofs.lemmas.Bool.{cases_order}
use Rattle.rx_spec.specs.Sizes.{leaving_bytes}
use Rattle.rx_lemmas.proofs.Filters.{every_in_range, filter_alike}
use Rattle.rx_sparse_build.proofs.SameNodes.{same_numbers}

module _ {t : Table} {b : Build} (p : IsPower t b) where
  abbrev node : ℕ → Node
  node row = node_at p.states row

  abbrev state : ℕ → State
  state i = get_or p.states i dead_state

  -- the nodes of rows behind quit are states, none of them dead
  node_behind : (i : ℕ) → i < length p.states → node (suc (suc i)) ≡ Node.Running (state i)
  node_behind i h = get_or-map (λ s. Node.Running s) p.states i dead_state dead h

  alive_behind : (i : ℕ) → i < length p.states → is_dead (node (suc (suc i))) ≡ false
  alive_behind i h =
      ap is_dead (node_behind i h) ∙ (All-get_or (IsReached b) p.states i dead_state h p.reached.only).alive

  -- row 0 alone is dead
  pub dead_is : (row : ℕ) → row < t.size → is_dead (node row) ≡ (row == 0)
  dead_is zero h = refl
  dead_is (suc zero) h = refl
  dead_is (suc (suc i)) h = grind (arith, common_steps, alive_behind, ne_eqb)

  -- ---- different rows have different nodes

  dead_behind : (i : ℕ) → suc (suc i) < t.size → node 0 ≡ node (suc (suc i)) → ⊥
  dead_behind i h e = let f : true ≡ false = ap is_dead e ∙ alive_behind i (omega (arith, p.size)) in cc

  below_apart : (x y : ℕ) → x < y → y < t.size → node x ≡ node y → ⊥
  below_apart x zero less h e = omega (arith, less)
  below_apart zero (suc zero) less h e = cc e
  below_apart (suc x) (suc zero) less h e = omega (arith, less)
  below_apart zero (suc (suc j)) less h e = dead_behind j h e
  below_apart (suc zero) (suc (suc j)) less h e = (let f = e ∙ node_behind j (omega (arith, p.size)) in cc)
  below_apart (suc (suc i)) (suc (suc j)) less h e =
      let f : Node.Running (state i) ≡ Node.Running (state j) =
      sym (node_behind i (omega arith)) ∙ e ∙ node_behind j (omega (arith, p.size)) in
      p.reached.distinct i j dead_state (omega arith) (omega (arith, p.size)) (cc f)

  -- so the test of two rows' nodes is that of the rows
  pub same_rows : (x y : ℕ) → x < t.size → y < t.size → same_node (node x) (node y) ≡ (x == y)
  same_rows x y hx hy =
      same_numbers x y (node x) (node y) (ap node) (λ e. grind (arith, common_steps, cases_order, below_apart))

  -- ---- the bytes that leave a row

  module _ (is : IsTable t) (row : ℕ) (h : row < t.size) where
    -- the same bytes leave it and its node
    pub leaving_same : leaving_bytes b (node row) ≡ leaving t row
    leaving_same =
        filter_alike (λ byte. not (same_node (next_node b (node row) byte) (node row)))
        (λ byte. not (t.machine.next row byte == row)) (range_with_len 0 256)
        (every_in_range (λ byte. not (same_node (next_node b (node row) byte) (node row))
        ≡ not (t.machine.next row byte == row)) 0 256
        (λ byte low high.
        ap (λ n. not (same_node n (node row))) (sym (p.nexts row byte h (omega arith)))
        ∙ ap not (same_rows (t.machine.next row byte) row (is.nexts row byte h (omega arith)) h)))

  -- there is a state where there is a row behind quit
  pub some_state : nat_lt 0 (length p.states) ≡ nat_lt 2 t.size
  some_state = grind (arith, common_steps, cases_lt, lt-ltb, le-ltb)
