-- What a decoded row answers from its parts.
use Rattle.rx_spec.proofs.Prelude.{common_steps, ◌≡◌, ℕ, suc, ◌+◌, ◌-◌, ◌*◌, ◌/◌, ◌<◌, ◌≤◌, ◌&&◌, Bool, true, false}
use Rattle.rx_spec.proofs.Prelude.{List, ◌∷◌, length, take, drop, map, slice_index, get_or, nat_le, ap, sym, ◌∙◌, arith}
use Rattle.rx_spec.proofs.Prelude.{range_with_len, w32, drop-drop, get_or-map-range_with_len, length-map-range_with_len}
use Rattle.rx_wire.specs.declared.order.Order.{Order}
use Rattle.rx_wire.specs.Fields.{number}
use Rattle.rx_sparse.specs.declared.ranges.ClassRange.{ClassRange}
use Rattle.rx_sparse.specs.Rows.{next_among, no_range, patterns_in, patterns_len, range_in, word_at}

-- ---- ranges

-- the ranges from a place on, of so many
abbrev pub ranges_from : Order → (ends ids : List ℕ) → (count place : ℕ) → List ClassRange
ranges_from order ends ids count place = map (range_in order ends ids) (range_with_len place (count - place))

ranges-next : (order : Order) (ends ids : List ℕ) (count place : ℕ) → place < count
    → ranges_from order ends ids count place
    ≡ range_in order ends ids place ∷ ranges_from order ends ids count (place + 1)
ranges-next order ends ids count place h =
    let more : count - place ≡ suc (count - (place + 1)) = omega arith in
    ap (λ n. map (range_in order ends ids) (range_with_len place n)) more

-- whether the range at a place has a class
abbrev pub is_there : List ℕ → (place class : ℕ) → Bool
is_there ends place class =
    nat_le (slice_index ends (2 * place)) class && nat_le class (slice_index ends (2 * place + 1))

pub next-found : (order : Order) (ends ids : List ℕ) (count place class : ℕ) → place < count
    → is_there ends place class ≡ true
    → next_among (ranges_from order ends ids count place) class ≡ word_at order ids place
unfolding next_among
next-found order ends ids count place class h there = grind (arith, common_steps, ranges-next)

pub next-passed : (order : Order) (ends ids : List ℕ) (count place class : ℕ) → place < count
    → is_there ends place class ≡ false
    → next_among (ranges_from order ends ids count place) class
    ≡ next_among (ranges_from order ends ids count (place + 1)) class
unfolding next_among
next-passed order ends ids count place class h there = grind (arith, common_steps, ranges-next)

pub next-none : (order : Order) (ends ids : List ℕ) (count place class : ℕ) → count ≤ place
    → next_among (ranges_from order ends ids count place) class ≡ 0
unfolding next_among
next-none order ends ids count place class h = grind (arith, common_steps)

-- ---- patterns

module _ (order : Order) (rest : List ℕ) (i : ℕ) where
  -- the word of a pattern stands behind their count
  word_behind : word_at order rest (i + 1) ≡ word_at order (drop 4 rest) i
  word_behind =
      ap (λ n. number order w32 (take 4 (drop n rest))) (omega arith)
      ∙ ap (λ t. number order w32 (take 4 t)) (sym (drop-drop (4 * i) 4 rest))

  module _ (is_match : Bool) (h : i < length (patterns_in order is_match rest)) where
    pub pattern_is : word_at order rest (i + 1) ≡ slice_index (patterns_in order is_match rest) i
    pattern_is = word_behind ∙ by_match is_match h
      where
        by_match : (m : Bool) → i < length (patterns_in order m rest)
            → word_at order (drop 4 rest) i ≡ slice_index (patterns_in order m rest) i
        by_match false k = absurd (omega arith)
        by_match true k =
            let none : 0 + i ≡ i = omega arith in
            let count = length-map-range_with_len (word_at order (drop 4 rest)) 0 (word_at order rest 0) in
            sym (get_or-map-range_with_len (word_at order (drop 4 rest)) 0 (word_at order rest 0) i i 0
            (omega (arith, count)) none)

    pub pattern_place : 4 * (i + 1) + 4 ≤ patterns_len order is_match rest
    pattern_place = by_match is_match h
      where
        by_match : (m : Bool) → i < length (patterns_in order m rest) → 4 * (i + 1) + 4 ≤ patterns_len order m rest
        by_match false k = absurd (omega arith)
        by_match true k =
            let count = length-map-range_with_len (word_at order (drop 4 rest)) 0 (word_at order rest 0) in
            omega (arith, count)

pub pattern_count : (order : Order) (is_match : Bool) (rest : List ℕ) → is_match ≡ true
    → word_at order rest 0 ≡ length (patterns_in order is_match rest)
pattern_count order is_match rest e = grind (arith, common_steps, length-map-range_with_len)

-- ---- a range

module _ (order : Order) (ends ids : List ℕ) {ranges : List ClassRange} (i : ℕ) (h : i < length ranges)
    (are : map (range_in order ends ids) (range_with_len 0 (length ends / 2 - 1)) ≡ ranges) where
  pub range_place : i < length ends / 2 - 1
  range_place = grind (arith, common_steps, length-map-range_with_len)

  pub range_is : range_in order ends ids i ≡ get_or ranges i no_range
  range_is = grind (arith, common_steps, get_or-map-range_with_len, range_place)
