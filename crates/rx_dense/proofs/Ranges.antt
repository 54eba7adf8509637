-- Ranges of classes that lead to one row, as they are handed out one by one.
use Rattle.rx_spec.proofs.Prelude.{common_steps, ◌≡◌, ◌≢◌, ℕ, zero, suc, ◌+◌, ◌-◌, ◌<◌, ◌≤◌, ◌==◌, ◌&&◌, ◌||◌, not}
use Rattle.rx_spec.proofs.Prelude.{Bool, true, false, cond, List, ◌∷◌, ◌++◌, length, drop, slice_index, ap, ap₂}
use Rattle.rx_spec.proofs.Prelude.{sym, ◌∙◌, arith, map, filter, length-drop, length-take-le, slice_range, prefix_len}
use Rattle.rx_spec.proofs.Prelude.{range_with_len, or-true, eq-eqb, eqb-true, nat_tests}
use Rattle.std.proofs.lemmas.List.Folds.{length-prefix_len}
use Rattle.std.proofs.lemmas.List.Sums.{prefix_len-drop_yes, prefix_len-le-length, prefix_len_passes, prefix_len_stops}
use Rattle.rx_dense.specs.States.{begins_range, eoi_range_from, is_live, range_end, range_of, sparse_transitions_from}

-- ---- tests

differs : (a b : ℕ) → a ≢ b → (a == b) ≡ false
differs a b h = grind (arith, nat_tests)

-- numbers that fail a test are passed over
passed_over : (test : ℕ → Bool) (end at n : ℕ) → at + n ≤ end → ((c : ℕ) → at ≤ c → c < at + n → test c ≡ false)
    → filter test (range_with_len at (end - at)) ≡ filter test (range_with_len (at + n) (end - (at + n)))
passed_over test end at zero h fails = grind (arith, common_steps)
passed_over test end at (suc n) h fails =
    let rest : List ℕ = filter test (range_with_len (at + 1) (end - (at + 1))) in
    let more : end - at ≡ suc (end - (at + 1)) = omega arith in
    ap (λ n. filter test (range_with_len at n)) more
    ∙ ap (λ t. cond t (at ∷ rest) rest) (fails at (omega arith) (omega arith))
    ∙ passed_over test end (at + 1) n (omega arith) (λ c from below. fails c (omega arith) (omega arith))
    ∙ ap (λ a. filter test (range_with_len a (end - a))) (omega arith)

module _ (next_ids : List ℕ) where
  abbrev eoi : ℕ
  eoi = length next_ids - 1

  abbrev firsts_from : ℕ → List ℕ
  firsts_from class = filter (λ c. begins_range next_ids c && is_live next_ids c) (range_with_len class (eoi - class))

  -- ---- a range

  module _ (first : ℕ) (h : first + 1 < length next_ids) where
    abbrev there : ℕ → Bool
    there id = id == slice_index next_ids first

    abbrev classes : List ℕ
    classes = slice_range next_ids first eoi

    abbrev end : ℕ
    end = range_end next_ids first

    count : length classes ≡ eoi - first
    count = length-take-le (eoi - first) (drop first next_ids) (omega (arith, length-drop first next_ids))

    class_at : (k : ℕ) → k < length classes → slice_index classes k ≡ slice_index next_ids (first + k)
    class_at k b = grind (arith, common_steps)

    end_is : end ≡ first + prefix_len there classes
    end_is = ap (λ n. first + n) (length-prefix_len there classes)

    pub range_end-within : end + 1 ≤ length next_ids
    range_end-within = omega (arith, end_is, count, prefix_len-le-length there classes)

    pub range_end-after : first < end
    range_end-after =
        let some : 0 < length classes = omega (arith, count) in
        let first_is : first + 0 ≡ first = omega arith in
        let passes : there (slice_index classes 0) ≡ true =
        eq-eqb _ _ (class_at 0 some ∙ ap (slice_index next_ids) first_is) in
        omega (arith, end_is, prefix_len-drop_yes there classes 0 0 some passes)

    -- its classes lead where the first leads
    same : (c : ℕ) → first ≤ c → c < end → slice_index next_ids c ≡ slice_index next_ids first
    same c from below =
        let k : ℕ = c - first in
        let low : k < prefix_len there classes = omega (arith, end_is) in
        let inside : k < length classes = omega (arith, prefix_len-le-length there classes) in
        let place : first + k ≡ c = omega arith in
        ap (slice_index next_ids) (sym place)
        ∙ sym (class_at k inside)
        ∙ eqb-true _ _ (prefix_len_passes there classes k 0 low)

    -- none but the first begins a range, and the class behind them does
    inner : (c : ℕ) → first < c → c < end → begins_range next_ids c ≡ false
    inner c from below = grind (arith, common_steps, same)

    pub range_end-begins : end + 1 < length next_ids → begins_range next_ids end ≡ true
    range_end-begins more =
        let n : ℕ = prefix_len there classes in
        let short : n < length classes = omega (arith, end_is, count) in
        let last = same (end - 1) (omega (arith, range_end-after)) (omega (arith, range_end-after)) in
        let behind = ap (slice_index next_ids) end_is ∙ sym (class_at n short) in
        let stops : there (slice_index classes n) ≡ false = prefix_len_stops there classes 0 short in
        let other : slice_index next_ids (end - 1) ≢ slice_index next_ids end = λ e.
        absurd (cc (stops, eq-eqb _ _ (sym behind ∙ sym e ∙ last))) in
        ap (λ t. (end == 0) || not t) (differs _ _ other) ∙ or-true (end == 0)

    -- ---- what is left, from a first class on and from the class behind its range on

    module _ (begins : begins_range next_ids first ≡ true) where
      firsts : firsts_from first ≡ cond (is_live next_ids first) (first ∷ firsts_from end) (firsts_from end)
      firsts =
          let more : eoi - first ≡ suc (eoi - (first + 1)) = omega arith in
          let behind : first + 1 + (end - (first + 1)) ≡ end = omega (arith, range_end-after) in
          let passed : firsts_from (first + 1) ≡ firsts_from end =
          passed_over (λ c. begins_range next_ids c && is_live next_ids c) eoi (first + 1) (end - (first + 1))
          (omega (arith, range_end-within))
          (λ c from below.
          ap (λ t. t && is_live next_ids c) (inner c (omega arith) (omega arith)))
          ∙ ap firsts_from behind in
          ap (λ n. filter (λ c. begins_range next_ids c && is_live next_ids c) (range_with_len first n)) more
          ∙ ap₂ (λ (t : Bool) (rest : List ℕ). cond (t && is_live next_ids first) (first ∷ rest) rest) begins passed

      eoi_left : eoi_range_from next_ids first ≡ eoi_range_from next_ids end
      eoi_left = grind (arith, common_steps)

      left : (live : Bool) → is_live next_ids first ≡ live
          → sparse_transitions_from next_ids first
          ≡ map (range_of next_ids) (cond live (first ∷ firsts_from end) (firsts_from end))
          ++ eoi_range_from next_ids end
      left live e = grind (arith, common_steps, firsts)

      pub sparse-live : slice_index next_ids first ≢ 0
          → sparse_transitions_from next_ids first ≡ range_of next_ids first ∷ sparse_transitions_from next_ids end
      sparse-live live = left true (ap not (differs _ _ live))

      pub sparse-dead : slice_index next_ids first ≡ 0
          → sparse_transitions_from next_ids first ≡ sparse_transitions_from next_ids end
      sparse-dead dead = left false (ap not (eq-eqb _ _ dead))
