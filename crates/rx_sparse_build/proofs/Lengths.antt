-- The rows of the sparse table of a powerset machine are as long as the definitions say of its states.
use Rattle.rx_spec.proofs.Prelude.{common_steps, ◌≡◌, ◌≢◌, ℕ, zero, suc, ◌<◌, ◌≤◌, Bool, List, ◌∷◌, length, map, get_or}
use Rattle.rx_spec.proofs.Prelude.{refl, ap, sym, ◌∙◌, arith, sum_by, All, AllPairs, range_with_len, length-map}
use Rattle.rx_spec.proofs.Prelude.{All-contains, Build, IsReached, Node, dead, Exceeds, max_id, node_at, sparse_size}
use Rattle.rx_spec.proofs.Prelude.{State}
use Rattle.rx_spec.specs.Sizes.{patterns_size, sparse_row_size}
use Rattle.rx_lemmas.proofs.Sizes.{sparse_grows}
use Rattle.rx_dense.specs.Layouts.{Layout, row_count}
use Rattle.rx_sparse.specs.Sparse.{sparse_len}
use Rattle.rx_sparse_build.specs.Measured.{IsMeasured}
use Rattle.rx_sparse_build.proofs.Bounds.{some_states}
use Rattle.rx_sparse_build.proofs.Needles.{needles_counted}
use Rattle.rx_sparse_build.proofs.PowerRanges.{ranges_counted}
use Rattle.rx_sparse_build.proofs.RowLens.{len_at, patterns_counted, ranges_are, sparse_sum}
use Rattle.rx_sparse_build.proofs.Sums.{sum_exactly}

module _ {b : Build} {byte_classes accelerate : Bool} {l : Layout} (is : IsMeasured b byte_classes accelerate l) where
  -- ---- a row

  module _ (row : ℕ) (h : row < row_count l) where
    -- its ranges, patterns and needles are those that are counted for its node
    pub row_counted : len_at l row
        ≡ sparse_row_size b byte_classes accelerate is.power.states (node_at is.power.states row)
    row_counted =
        omega (
          arith,
          ranges_are l is.sound row h,
          ranges_counted is.shaped.rows is.power row h byte_classes is.classes,
          patterns_counted l is.sound row h,
          ap patterns_size (is.power.labels row h),
          needles_counted is.power is.sound accelerate row h (is.accelerated row h),
        )

  -- ---- all rows

  -- the nodes in a list are those of the rows
  node_there : (states : List State) (i : ℕ)
      → get_or (dead ∷ Node.Quit ∷ map (λ s. Node.Running s) states) i dead ≡ node_at states i
  node_there states zero = refl
  node_there states (suc zero) = refl
  node_there states (suc (suc i)) = refl

  -- so the rows have as many bytes as the nodes are counted
  pub len_is : sparse_len l ≡ sparse_size b byte_classes accelerate is.power.states
  len_is =
      let nodes : List Node = dead ∷ Node.Quit ∷ map (λ s. Node.Running s) is.power.states in
      let size : Node → ℕ = sparse_row_size b byte_classes accelerate is.power.states in
      let count : row_count l ≡ length nodes =
      omega (arith, is.power.size, length-map is.power.states (λ s. Node.Running s)) in
      sparse_sum l
      ∙ ap (λ n. sum_by (len_at l) (range_with_len 0 n)) count
      ∙ sum_exactly size dead (len_at l) 0 nodes
      (λ i h.
      ap (len_at l) (omega arith) ∙ row_counted i (omega (arith, count)) ∙ ap size (sym (node_there is.power.states i)))

  -- it is the greatest size of states that are reached
  pub len_greatest : (some : List State) → AllPairs (λ x y. x ≢ y) some → All (IsReached b) some
      → sparse_size b byte_classes accelerate some ≤ sparse_len l
  len_greatest some distinct reached =
      let grows = sparse_grows b byte_classes accelerate some is.power.states distinct
      (λ s c. is.power.reached.all s (All-contains (IsReached b) some s reached c)) in
      omega (arith, len_is, grows)

  -- ---- so rows are too long exactly where states are

  -- rows that are too long are those of states that are
  pub too_long : max_id < sparse_len l → Exceeds b (sparse_size b byte_classes accelerate) max_id
  too_long over = grind (arith, common_steps, some_states, len_is)

  -- where they aren't, no states are
  pub fits : sparse_len l ≤ max_id → Exceeds b (sparse_size b byte_classes accelerate) max_id → ⊥
  fits within e = omega (arith, len_greatest e.states e.distinct e.reached, e.over, within)
