-- The rows of a sparse table, where any two rows of the dense one are told apart, are no longer than the bound of the
-- states behind its rows. So their length is that of states that are reached, wherever it is too much.
use Rattle.rx_spec.proofs.Prelude.{common_steps, ◌≡◌, ℕ, suc, ◌+◌, ◌*◌, ◌<◌, ◌≤◌, Bool, List, [], ◌∷◌, length, get_or}
use Rattle.rx_spec.proofs.Prelude.{refl, ap, sym, ◌∙◌, arith, subst, ⊎_elim, sum_by, range_with_len, cases_lt}
use Rattle.rx_spec.proofs.Prelude.{sum_by-cons, Build, Exceeds, max_id, label_total, sparse_bound, State, dead_state}
use Rattle.rx_spec.proofs.Prelude.{IsSound}
use Rattle.rx_base.specs.ByteClasses.{alphabet_len}
use Rattle.rx_dense.specs.Layouts.{AreRows, Layout, row_count, table_of}
use Rattle.rx_dense.proofs.Rows.{alphabet_few}
use Rattle.rx_sparse.specs.Sparse.{sparse_len}
use Rattle.rx_sparse_build.specs.Measured.{IsBounded}
use Rattle.rx_sparse_build.proofs.Patterns.{named, named_label}
use Rattle.rx_sparse_build.proofs.PowerRanges.{class_is}
use Rattle.rx_sparse_build.proofs.ReachedStates.{AreRowStates, IsApart, alike_label, row_states}
use Rattle.rx_sparse_build.proofs.RowLens.{len_at, len_most, sparse_sum}
use Rattle.rx_sparse_build.proofs.Sums.{sum_at_most}

module _ (l : Layout) (rows : AreRows l) (sound : IsSound (table_of l)) where
  -- what each row has at most, beside its patterns
  abbrev most : ℕ
  most = 6 * alphabet_len l.classes + 10

  -- dead and quit tell no patterns
  dead_len : 0 < row_count l → len_at l 0 ≤ most
  dead_len h = grind (arith, common_steps, named, len_most)

  quit_len : 1 < row_count l → len_at l 1 ≤ most
  quit_len h = grind (arith, common_steps, named, len_most)

  -- Each row behind quit tells what some state does.
  pub len_bound : (states : List State) → length states + 2 ≡ row_count l
      → ((i : ℕ) → i < length states
      → named ((table_of l).machine.label (2 + i)) ≡ length (get_or states i dead_state).label)
      → sparse_len l ≤ (length states + 2) * most + 4 * label_total states
  len_bound states counted labels =
      let tail : List ℕ = range_with_len 2 (length states) in
      let count : row_count l ≡ suc (suc (length states)) = omega arith in
      let behind : sum_by (len_at l) tail ≤ length states * most + 4 * label_total states =
      sum_at_most (λ (s : State). length s.label) dead_state (len_at l) most 2 states
      (λ i h. omega (arith, len_most l sound (2 + i) (omega arith) rows, labels i h)) in
      let all : sparse_len l ≡ sum_by (len_at l) (range_with_len 0 (suc (suc (length states)))) =
      sparse_sum l ∙ ap (λ n. sum_by (len_at l) (range_with_len 0 n)) count in
      omega (
        arith,
        all,
        sum_by-cons (len_at l) 0 (range_with_len 1 (suc (length states))),
        sum_by-cons (len_at l) 1 tail,
        dead_len (omega arith),
        quit_len (omega arith),
        behind,
      )

  -- A table of dead and quit alone isn't too long.
  pub some_states : (states : List State) → length states + 2 ≡ row_count l → max_id < sparse_len l → 0 < length states
  some_states states counted over =
      ⊎_elim
      (λ (some : 0 < length states). some)
      (λ (none : length states ≤ 0).
      let empty : [] ≡ states = nil_is states none in
      let two : sparse_len l ≤ (length {A = State} [] + 2) * most + 4 * label_total [] =
      len_bound [] (ap (λ (xs : List State). length xs + 2) empty ∙ counted) (λ i h. absurd (omega arith)) in
      absurd (omega (arith, two, alphabet_few l.classes rows.classes, over)))
      (cases_lt 0 (length states))
    where
      nil_is : (xs : List State) → length xs ≤ 0 → [] ≡ xs
      nil_is [] h = refl
      nil_is (x ∷ xs) h = absurd (omega arith)

module _ {b : Build} {byte_classes : Bool} {l : Layout} (is : IsBounded b byte_classes l) where
  abbrev rows : AreRows l
  rows = is.shaped.rows

  -- such a table has a state behind each row
  told_apart : IsApart (table_of l) b
  told_apart = grind (arith, common_steps)

  -- and its rows are within the bound of these states
  bound_holds : (states : List State) → AreRowStates told_apart states
      → sparse_len l ≤ sparse_bound b byte_classes states
  bound_holds states are =
      let le = len_bound l rows is.sound states are.counted
      (λ i h. ap named (alike_label (are.each i h).alike) ∙ named_label (get_or states i dead_state).label) in
      subst (λ n. sparse_len l ≤ (length states + 2) * (6 * n + 10) + 4 * label_total states)
      (sym (omega (arith, class_is b byte_classes l is.classes 255 (omega arith)))) le

  -- Rows that are too long are so by their bound.
  pub too_long : max_id < sparse_len l → Exceeds b (sparse_bound b byte_classes) max_id
  too_long over =
      let all = row_states told_apart in
      let are = all.1 in
      record {
        states = all.0;
        some = some_states l rows is.sound all.0 are.counted over;
        distinct = are.distinct;
        reached = are.reached;
        over = (let le = bound_holds all.0 are in omega arith);
      }
